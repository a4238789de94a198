use Rattle.std.proofs.Common.{ℕ, ◌+◌, ◌*◌, ◌++◌, ◌≤◌, ◌<◌, ◌^◌, All, List, length, sym, ap, ◌∙◌, arith, subst}
use Rattle.std.proofs.lemmas.List.{length-append}
use Rattle.grib_base.specs.declared.fault.Reason.TheVariants.{FirstValueSign}
use Rattle.grib_base.specs.Rules.{refusal}
use Rattle.grib_packing.proofs.Fields.{length-plain}
use Rattle.grib_bits.specs.Bits.{bits}
use Rattle.grib_complex_reading.specs.declared.alike.Outcome.{Outcome}
use Rattle.grib_complex_reading.specs.Alike.{Becomes}
use Rattle.grib_complex_reading.specs.Descriptors.{is_signed_number, sign_fault, AreTold}
use Rattle.grib_complex_reading.proofs.Described.{begins_list, begun_more, numbers_are, passes_alike, refused_alike, sign_refuses, signs_clear}
use Rattle.grib_complex_reading.proofs.NotedNumbers.{no_sign, numbers_small}
use Rattle.grib_complex_reading.proofs.stages.Beginning.push.Goals as goal

pub returns-in-Some : goal.returns-in-Some
returns-in-Some g c = λ s5 keeper octets long known agrees.
    let b = c.args.self in
    let is_k = c.from-2.ensures ∙ c.skip-skip.ensures in
    let numbers = c.deref.ensures.value ∙ ap (λ t. t.items.items) c.taker.ensures in
    let is = ap (λ (ns : List ℕ). sign_fault c.args.start b.complex.order b.complex.extra ns) (sym numbers) ∙ sym c.signed_fault.ensures ∙ c.in-Some.is in (
      sign_refuses s5 keeper c.args.length octets c.args.piece.now b c.from-2.result c.part_of-part.result.now c.push-descriptors.result is_k
          (c.part_of-part.ensures.part octets (long ∙ sym c.from.ensures)) c.push-descriptors.ensures.fed agrees c.args.start c.in-Some.fault is,
      agrees.keeper_is,
    )

pub returns-then-before-piece : goal.returns-then-before-piece
returns-then-before-piece g c = λ s5 keeper octets long known agrees.
    let is_k = c.from-2.ensures ∙ c.skip-skip.ensures in
    let short : length (octets ++ c.args.piece.now) < (c.args.self.complex.order + 1) * c.args.self.complex.extra = omega (arith, length-append octets c.args.piece.now, long, c.if-before-piece.true, c.skip-skip.ensures) in
    let b = c.args.self in
    let order = b.complex.order in
    let extra = b.complex.extra in
    let is_part = c.part_of-part.ensures.part octets (long ∙ sym c.from.ensures) in
    let list = c.push-descriptors.ensures.list (8 * extra) agrees.list in
    let none = sym c.signed_fault.ensures ∙ c.in_default.is in
    let clear = no_sign (is_signed_number order extra c.deref.result.now 0) (is_signed_number order extra c.deref.result.now 1) (refusal (c.args.start + 5) FirstValueSign 1) (refusal (c.args.start + 5 + extra) FirstValueSign 2) none in
    let items = c.deref.ensures.value ∙ ap (λ t. t.items.items) c.taker.ensures in (
      begun_more s5 keeper c.args.length octets c.args.piece.now b c.from-2.result c.part_of-part.result.now c.push-descriptors.result is_k is_part c.push-descriptors.ensures.fed agrees
          c.push-descriptors.ensures.feedable list (c.push-descriptors.ensures.room 0 agrees.room) (omega (arith, short)),
      short,
      signs_clear s5 keeper c.args.length octets c.args.piece.now b c.from-2.result c.part_of-part.result.now c.push-descriptors.result is_k is_part c.push-descriptors.ensures.fed agrees
          c.push-descriptors.ensures.feedable list c.push-descriptors.ensures.caught_up (omega (arith, short))
          (ap (λ (ns : List ℕ). is_signed_number order extra ns 0) (sym items) ∙ clear.0) (ap (λ (ns : List ℕ). is_signed_number order extra ns 1) (sym items) ∙ clear.1),
    )

pub of-told-requires-clause-all : goal.of-told-requires-clause-all
of-told-requires-clause-all g c =
    let b = c.args.self in
    let order = b.complex.order in
    let extra = b.complex.extra in
    let octets = c.requires.begun.octets in
    let piece = c.args.piece.now in
    let is_k = c.from-2.ensures ∙ c.skip-skip.ensures in
    let whole : (order + 1) * extra ≤ length (octets ++ piece) = omega (arith, length-append octets piece, c.requires.begun.long, c.if-before-piece.false, c.skip-skip.ensures) in
    let is_part = c.part_of-part.ensures.part octets (c.requires.begun.long ∙ sym c.from.ensures) in
    let begun = c.requires.begun in
    let are = numbers_are begun.s5 begun.keeper c.args.length octets piece b c.from-2.result c.part_of-part.result.now c.push-descriptors.result is_k is_part c.push-descriptors.ensures.fed begun.agrees whole c.push-descriptors.ensures.took in
    let numbers = c.deref-2.ensures.value ∙ ap (λ t. t.items.items) c.taker-2.ensures ∙ are in
    ap length numbers ∙ length-plain (bits (octets ++ piece)) (8 * extra) (order + 1)

pub of-told-requires-clause-small : goal.of-told-requires-clause-small
of-told-requires-clause-small g c =
    let b = c.args.self in
    let order = b.complex.order in
    let extra = b.complex.extra in
    let octets = c.requires.begun.octets in
    let piece = c.args.piece.now in
    let is_k = c.from-2.ensures ∙ c.skip-skip.ensures in
    let whole : (order + 1) * extra ≤ length (octets ++ piece) = omega (arith, length-append octets piece, c.requires.begun.long, c.if-before-piece.false, c.skip-skip.ensures) in
    let is_part = c.part_of-part.ensures.part octets (c.requires.begun.long ∙ sym c.from.ensures) in
    let begun = c.requires.begun in
    let are = numbers_are begun.s5 begun.keeper c.args.length octets piece b c.from-2.result c.part_of-part.result.now c.push-descriptors.result is_k is_part c.push-descriptors.ensures.fed begun.agrees whole c.push-descriptors.ensures.took in
    let numbers = c.deref-2.ensures.value ∙ ap (λ t. t.items.items) c.taker-2.ensures ∙ are in
    subst (λ (ns : List ℕ). All (λ n. n < 2 ^ (8 * extra)) ns) (sym numbers) (numbers_small order extra (octets ++ piece))

pub of-told-requires-clause-first : goal.of-told-requires-clause-first
of-told-requires-clause-first g c =
    let b = c.args.self in
    let order = b.complex.order in
    let extra = b.complex.extra in
    let none = sym c.signed_fault.ensures ∙ c.in_default.is in
    let clear = no_sign (is_signed_number order extra c.deref.result.now 0) (is_signed_number order extra c.deref.result.now 1) (refusal (c.args.start + 5) FirstValueSign 1) (refusal (c.args.start + 5 + extra) FirstValueSign 2) none in
    let first_items = c.deref.ensures.value ∙ ap (λ t. t.items.items) c.taker.ensures in
    let items = c.deref-2.ensures.value ∙ ap (λ t. t.items.items) c.taker-2.ensures in
    ap (λ (ns : List ℕ). is_signed_number order extra ns 0) (items ∙ sym first_items) ∙ clear.0

pub of-told-requires-clause-second : goal.of-told-requires-clause-second
of-told-requires-clause-second g c =
    let b = c.args.self in
    let order = b.complex.order in
    let extra = b.complex.extra in
    let none = sym c.signed_fault.ensures ∙ c.in_default.is in
    let clear = no_sign (is_signed_number order extra c.deref.result.now 0) (is_signed_number order extra c.deref.result.now 1) (refusal (c.args.start + 5) FirstValueSign 1) (refusal (c.args.start + 5 + extra) FirstValueSign 2) none in
    let first_items = c.deref.ensures.value ∙ ap (λ t. t.items.items) c.taker.ensures in
    let items = c.deref-2.ensures.value ∙ ap (λ t. t.items.items) c.taker-2.ensures in
    ap (λ (ns : List ℕ). is_signed_number order extra ns 1) (items ∙ sym first_items) ∙ clear.1

pub push-requires-clause-begun : goal.push-requires-clause-begun
push-requires-clause-begun g c =
    let b = c.args.self in
    let order = b.complex.order in
    let extra = b.complex.extra in
    let octets = c.requires.begun.octets in
    let piece = c.args.piece.now in
    let is_k = c.from-2.ensures ∙ c.skip-skip.ensures in
    let whole : (order + 1) * extra ≤ length (octets ++ piece) = omega (arith, length-append octets piece, c.requires.begun.long, c.if-before-piece.false, c.skip-skip.ensures) in
    let is_part = c.part_of-part.ensures.part octets (c.requires.begun.long ∙ sym c.from.ensures) in
    let none = sym c.signed_fault.ensures ∙ c.in_default.is in
    let clear = no_sign (is_signed_number order extra c.deref.result.now 0) (is_signed_number order extra c.deref.result.now 1) (refusal (c.args.start + 5) FirstValueSign 1) (refusal (c.args.start + 5 + extra) FirstValueSign 2) none in
    let first_items = c.deref.ensures.value ∙ ap (λ t. t.items.items) c.taker.ensures in
    let items = c.deref-2.ensures.value ∙ ap (λ t. t.items.items) c.taker-2.ensures in
    let begun = c.requires.begun in
    let told = subst (λ (ns : List ℕ). AreTold order extra ns c.of-told.result) items c.of-told.ensures in
    let clear_0 = ap (λ (ns : List ℕ). is_signed_number order extra ns 0) (sym first_items) ∙ clear.0 in
    let clear_1 = ap (λ (ns : List ℕ). is_signed_number order extra ns 1) (sym first_items) ∙ clear.1 in
    record {
      s5 = begun.s5;
      keeper = begun.keeper;
      octets = octets;
      long = begun.long;
      agrees = begins_list begun.s5 begun.keeper c.args.length octets piece b c.from-2.result c.part_of-part.result.now c.push-descriptors.result is_k is_part c.push-descriptors.ensures.fed begun.agrees whole c.push-descriptors.ensures.took
          c.of-told.result c.start.result told clear_0 clear_1 c.start.ensures.feedable (c.start.ensures.fed b.complex.simple.values begun.agrees.lists);
    }

pub returns : goal.returns
returns g c = λ s5 keeper octets long known agrees.
    let b = c.args.self in
    let order = b.complex.order in
    let extra = b.complex.extra in
    let piece = c.args.piece.now in
    let is_k = c.from-2.ensures ∙ c.skip-skip.ensures in
    let whole : (order + 1) * extra ≤ length (octets ++ piece) = omega (arith, length-append octets piece, long, c.if-before-piece.false, c.skip-skip.ensures) in
    let is_part = c.part_of-part.ensures.part octets (long ∙ sym c.from.ensures) in
    let none = sym c.signed_fault.ensures ∙ c.in_default.is in
    let clear = no_sign (is_signed_number order extra c.deref.result.now 0) (is_signed_number order extra c.deref.result.now 1) (refusal (c.args.start + 5) FirstValueSign 1) (refusal (c.args.start + 5 + extra) FirstValueSign 2) none in
    let first_items = c.deref.ensures.value ∙ ap (λ t. t.items.items) c.taker.ensures in
    let items = c.deref-2.ensures.value ∙ ap (λ t. t.items.items) c.taker-2.ensures in
    let told = subst (λ (ns : List ℕ). AreTold order extra ns c.of-told.result) items c.of-told.ensures in
    let clear_0 = ap (λ (ns : List ℕ). is_signed_number order extra ns 0) (sym first_items) ∙ clear.0 in
    let clear_1 = ap (λ (ns : List ℕ). is_signed_number order extra ns 1) (sym first_items) ∙ clear.1 in
    c.push.ensures s5 keeper octets long (omega (arith, agrees.below))
    (begins_list s5 keeper c.args.length octets piece b c.from-2.result c.part_of-part.result.now c.push-descriptors.result is_k is_part c.push-descriptors.ensures.fed agrees whole c.push-descriptors.ensures.took
    c.of-told.result c.start.result told clear_0 clear_1 c.start.ensures.feedable (c.start.ensures.fed b.complex.simple.values agrees.lists))

-- no rule fails
pub returns-in-Passes : goal.returns-in-Passes
returns-in-Passes g c = λ s5 keeper octets long known agrees.
    let b = c.args.self in
    let order = b.complex.order in
    let extra = b.complex.extra in
    let piece = c.args.piece.now in
    let is_k = c.from-2.ensures ∙ c.skip-skip.ensures in
    let whole : (order + 1) * extra ≤ length (octets ++ piece) = omega (arith, length-append octets piece, long, c.if-before-piece.false, c.skip-skip.ensures) in
    let is_part = c.part_of-part.ensures.part octets (long ∙ sym c.from.ensures) in
    let none = sym c.signed_fault.ensures ∙ c.in_default.is in
    let clear = no_sign (is_signed_number order extra c.deref.result.now 0) (is_signed_number order extra c.deref.result.now 1) (refusal (c.args.start + 5) FirstValueSign 1) (refusal (c.args.start + 5 + extra) FirstValueSign 2) none in
    let first_items = c.deref.ensures.value ∙ ap (λ t. t.items.items) c.taker.ensures in
    let items = c.deref-2.ensures.value ∙ ap (λ t. t.items.items) c.taker-2.ensures in
    let told = subst (λ (ns : List ℕ). AreTold order extra ns c.of-told.result) items c.of-told.ensures in
    let clear_0 = ap (λ (ns : List ℕ). is_signed_number order extra ns 0) (sym first_items) ∙ clear.0 in
    let clear_1 = ap (λ (ns : List ℕ). is_signed_number order extra ns 1) (sym first_items) ∙ clear.1 in
    let all = subst (λ (outcome : Outcome). Becomes b.complex c.of-told.result c.args.start c.args.length outcome) c.in-Passes.is c.outcome_of.ensures in
    passes_alike s5 keeper c.args.length octets piece b c.from-2.result c.part_of-part.result.now c.push-descriptors.result is_k is_part c.push-descriptors.ensures.fed agrees whole c.push-descriptors.ensures.took
    c.of-told.result told clear_0 clear_1 g.K.Keeper.kept (c.keeps.ensures c.if-not-keeps.true) c.args.start all

-- a rule fails
pub returns-in-Refused : goal.returns-in-Refused
returns-in-Refused g c = λ s5 keeper octets long known agrees.
    let b = c.args.self in
    let order = b.complex.order in
    let extra = b.complex.extra in
    let piece = c.args.piece.now in
    let is_k = c.from-2.ensures ∙ c.skip-skip.ensures in
    let whole : (order + 1) * extra ≤ length (octets ++ piece) = omega (arith, length-append octets piece, long, c.if-before-piece.false, c.skip-skip.ensures) in
    let is_part = c.part_of-part.ensures.part octets (long ∙ sym c.from.ensures) in
    let none = sym c.signed_fault.ensures ∙ c.in_default.is in
    let clear = no_sign (is_signed_number order extra c.deref.result.now 0) (is_signed_number order extra c.deref.result.now 1) (refusal (c.args.start + 5) FirstValueSign 1) (refusal (c.args.start + 5 + extra) FirstValueSign 2) none in
    let first_items = c.deref.ensures.value ∙ ap (λ t. t.items.items) c.taker.ensures in
    let items = c.deref-2.ensures.value ∙ ap (λ t. t.items.items) c.taker-2.ensures in
    let told = subst (λ (ns : List ℕ). AreTold order extra ns c.of-told.result) items c.of-told.ensures in
    let clear_0 = ap (λ (ns : List ℕ). is_signed_number order extra ns 0) (sym first_items) ∙ clear.0 in
    let clear_1 = ap (λ (ns : List ℕ). is_signed_number order extra ns 1) (sym first_items) ∙ clear.1 in
    let fails = subst (λ (outcome : Outcome). Becomes b.complex c.of-told.result c.args.start c.args.length outcome) c.in-Refused.is c.outcome_of.ensures in (
      refused_alike s5 keeper c.args.length octets piece b c.from-2.result c.part_of-part.result.now c.push-descriptors.result is_k is_part c.push-descriptors.ensures.fed agrees whole c.push-descriptors.ensures.took
          c.of-told.result told clear_0 clear_1 c.args.start c.in-Refused.fault fails,
      agrees.keeper_is,
    )
