-- What stands on a shelf after some first acts of `split`.
use Rattle.std.proofs.Common.{◌≡◌, ◌≢◌, ℕ, suc, ◌+◌, ◌^◌, ◌<◌, ◌⊎◌, inl, inr, false, cond, Some, List, [], ◌∷◌, ◌++◌, take, refl, sym, ap, ◌∙◌, subst, arith, ⊎_elim}
use Rattle.std.specs.declared.option.Option.{Option}
use Rattle.std.specs.Prelude.{All, codes}
use Rattle.std.specs.Fmt.{decimal}
use Rattle.std.specs.Str.{bytes_eq}
use Rattle.std.proofs.lemmas.Bool.{cases_Bool}
use Rattle.std.proofs.lemmas.Fmt.{decimal_injective}
use Rattle.std.proofs.lemmas.List.{append_cancel_left}
use Rattle.std.proofs.lemmas.List.Elements.{All-nil, All-cons, All-head, All-tail, All-take, All-drop}
use Rattle.std.proofs.lemmas.Slice.Eq.{bytes_eq-Decides}
use Rattle.grib_bits.proofs.Logic.{same_text}
use Rattle.grib_io.specs.Shelves.{Held}
use Rattle.grib_stream.specs.Acts.{Act, Makes, Adds, held_after}
use Rattle.grib_stream.proofs.Worlds.{held-append}
use Rattle.grib_edit.specs.Parts.{Part, part, part_name, adds, puts, puts_all}
use Rattle.grib_edit.proofs.Shelved.{held_adds, other_adds}
use Rattle.grib_run_law.specs.Shelved.{MayBeBegun, StandFirst, StandAll}

-- ---- some first acts

-- they end within the first acts, or go past them
cut : (xs ys front rest : List Act) → xs ++ ys ≡ front ++ rest
    → ((more : List Act) × (xs ≡ front ++ more)) ⊎ ((more : List Act) × (front ≡ xs ++ more) × (ys ≡ more ++ rest))
cut xs ys [] rest is = inl (xs, refl)
cut [] ys (act ∷ front) rest is = inr (act ∷ front, refl, is)
cut (x ∷ xs) ys (act ∷ front) rest is =
    let first : x ≡ act = cc in
    let later : xs ++ ys ≡ front ++ rest = cc in
    elim (cut xs ys front rest later) [
      | inl (more, same) ↦ inl (more, ap (λ a. a ∷ xs) first ∙ ap (λ acts. act ∷ acts) same)
      | inr (more, same, on) ↦ inr (more, ap (λ acts. act ∷ acts) same ∙ ap (λ a. a ∷ (xs ++ more)) (sym first), on)
    ]

cut_adds : (name octets : List ℕ) (front more : List Act) → adds name octets ≡ front ++ more
    → (first rest : List ℕ) × (octets ≡ first ++ rest) × (front ≡ adds name first)
cut_adds name octets [] more is = ([], octets, refl, refl)
cut_adds name [] (act ∷ front) more is = let no : ⊥ = cc in absurd no
cut_adds name (octet ∷ octets) (act ∷ front) more is =
    let head : Adds name octet ≡ act = cc in
    let tail : adds name octets ≡ front ++ more = cc in
    let (first, rest, same, acts) = cut_adds name octets front more tail in
    (octet ∷ first, rest, ap (λ xs. octet ∷ xs) same, ap (λ a. a ∷ front) (sym head) ∙ ap (λ xs. Adds name octet ∷ xs) acts)

cut_puts : (p : Part) (front more : List Act) → puts p ≡ front ++ more
    → (front ≡ []) ⊎ ((first rest : List ℕ) × (p.octets ≡ first ++ rest) × (front ≡ puts (part p.name first)))
cut_puts p [] more is = inl refl
cut_puts p (act ∷ front) more is =
    let head : Makes p.name ≡ act = cc in
    let tail : adds p.name p.octets ≡ front ++ more = cc in
    let (first, rest, same, acts) = cut_adds p.name p.octets front more tail in
    inr (first, rest, same, ap (λ a. a ∷ front) (sym head) ∙ ap (λ xs. Makes p.name ∷ xs) acts)

-- ---- one part

held_puts : (name octets : List ℕ) (held : Option (List ℕ)) → held_after name held (puts (part name octets)) ≡ Some octets
held_puts name octets held =
    ap (λ same. held_after name (cond same (Some []) held) (adds name octets)) (same_text name) ∙ held_adds name [] octets

other_puts : (name octets other : List ℕ) (held : Option (List ℕ)) → bytes_eq name other ≡ false → held_after other held (puts (part name octets)) ≡ held
other_puts name octets other held differs =
    ap (λ same. held_after other (cond same (Some []) held) (adds name octets)) differs ∙ other_adds other name held octets differs

differs : (name other : List ℕ) → name ≢ other → bytes_eq name other ≡ false
differs name other unlike = ⊎_elim (λ same. absurd (unlike ((bytes_eq-Decides name other).0 same))) (λ differs. differs) (cases_Bool (bytes_eq name other))

begun : (p : Part) (front more : List Act) (held : Option (List ℕ)) → puts p ≡ front ++ more → MayBeBegun p held (held_after p.name held front)
begun p front more held is = elim (cut_puts p front more is) [
  | inl none ↦ inl (ap (held_after p.name held) none)
  | inr (first, rest, same, acts) ↦ inr (first, rest, same, ap (held_after p.name held) acts ∙ held_puts p.name first held)
]

apart : (p : Part) (front more : List Act) (other : List ℕ) (held : Option (List ℕ)) → puts p ≡ front ++ more → p.name ≢ other → held_after other held front ≡ held
apart p front more other held is unlike = elim (cut_puts p front more is) [
  | inl none ↦ ap (held_after other held) none
  | inr (first, rest, same, acts) ↦ ap (held_after other held) acts ∙ other_puts p.name first other held (differs p.name other unlike)
]

-- ---- parts whose names differ

abbrev pub Distinct : List Part → Type 0
Distinct [] = Unit {0}
Distinct (p ∷ parts) = All (λ (q : Part). q.name ≢ p.name) parts × Distinct parts

nothing : (front rest : List Act) → [] ≡ front ++ rest → front ≡ []
nothing [] rest is = refl
nothing (act ∷ front) rest is = let no : ⊥ = cc in absurd no

pub stand_first : (parts : List Part) → Distinct parts → (front rest : List Act) → puts_all parts ≡ front ++ rest → (before now : Held)
    → ((name : List ℕ) → now name ≡ held_after name (before name) front) → (count : ℕ) × StandFirst parts before now count
stand_first [] distinct front rest is before now did = (
  0,
  record {
    whole = All-nil (λ (part : Part). now part.name ≡ Some part.octets);
    next = λ part later none. let no : ⊥ = cc in absurd no;
    others = λ name none. did name ∙ ap (held_after name (before name)) (nothing front rest is);
  },
)
stand_first (p ∷ parts) distinct front rest is before now did = elim (cut (puts p) (puts_all parts) front rest is) [
  | inl (more, within) ↦ (
    0,
    record {
      whole = All-nil (λ (part : Part). now part.name ≡ Some part.octets);
      next = λ part later there.
          let same : p ≡ part = cc in
          subst (λ (q : Part). MayBeBegun q (before q.name) (now q.name)) same
          (subst (MayBeBegun p (before p.name)) (sym (did p.name)) (begun p front more (before p.name) within));
      others = λ name apart_all.
          did name ∙ apart p front more name (before name) within (All-head (λ (q : Part). q.name ≢ name) p [] apart_all);
    },
  )
  | inr (more, past, on) ↦
      let then : Held = λ name. held_after name (before name) (puts p) in
      let (count, stands) = stand_first parts distinct.1 more rest on then now
      (λ name. did name ∙ (ap (held_after name (before name)) past ∙ held-append name (before name) (puts p) more)) in
      let keeps : (name : List ℕ) → p.name ≢ name → then name ≡ before name =
      λ name unlike. other_puts p.name p.octets name (before name) (differs p.name name unlike) in (
        suc count,
        record {
          whole = All-cons (λ (part : Part). now part.name ≡ Some part.octets) p (take count parts)
              (stands.others p.name (All-take (λ (q : Part). q.name ≢ p.name) (count + 1) parts distinct.0) ∙ held_puts p.name p.octets (before p.name))
              stands.whole;
          next = λ part later there.
              let other : part.name ≢ p.name =
              All-head (λ (q : Part). q.name ≢ p.name) part later
              (subst (All (λ (q : Part). q.name ≢ p.name)) there (All-drop (λ (q : Part). q.name ≢ p.name) count parts distinct.0)) in
              subst (λ held. MayBeBegun part held (now part.name)) (keeps part.name (λ e. other (sym e))) (stands.next part later there);
          others = λ name apart_all.
              let e : suc count + 1 ≡ suc (count + 1) = omega arith in
              let all : All (λ (q : Part). q.name ≢ name) (p ∷ take (count + 1) parts) = subst (λ n. All (λ (q : Part). q.name ≢ name) (take n (p ∷ parts))) e apart_all in
              stands.others name (All-tail (λ (q : Part). q.name ≢ name) p (take (count + 1) parts) all)
              ∙ keeps name (All-head (λ (q : Part). q.name ≢ name) p (take (count + 1) parts) all);
        },
      )
]

pub stand_all : (parts : List Part) → Distinct parts → (before now : Held)
    → ((name : List ℕ) → now name ≡ held_after name (before name) (puts_all parts)) → StandAll parts before now
stand_all [] distinct before now did = record { whole = All-nil (λ (part : Part). now part.name ≡ Some part.octets); others = λ name none. did name }
stand_all (p ∷ parts) distinct before now did =
    let then : Held = λ name. held_after name (before name) (puts p) in
    let stands = stand_all parts distinct.1 then now (λ name. did name ∙ held-append name (before name) (puts p) (puts_all parts)) in
    record {
      whole = All-cons (λ (part : Part). now part.name ≡ Some part.octets) p parts
          (stands.others p.name distinct.0 ∙ held_puts p.name p.octets (before p.name)) stands.whole;
      others = λ name apart_all.
          stands.others name (All-tail (λ (q : Part). q.name ≢ name) p parts apart_all)
          ∙ other_puts p.name p.octets name (before name) (differs p.name name (All-head (λ (q : Part). q.name ≢ name) p parts apart_all));
    }

-- ---- names differ by their numbers

pub same_number : (out : List ℕ) (m n : ℕ) → m < 2 ^ 64 → n < 2 ^ 64 → part_name out m ≡ part_name out n → m ≡ n
same_number out m n low high is = decimal_injective m n low high (append_cancel_left (out ++ codes ".") (decimal m) (decimal n) is)
