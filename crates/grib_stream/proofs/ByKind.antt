-- What the kind of an outcome says of it.
use Rattle.std.proofs.Common.{◌≡◌, ◌≢◌, ◌⊎◌, inl, inr, Bool, true, false, refl, sym, ap, ◌∙◌}
use Rattle.std.proofs.lemmas.Bool.{false≢true}
use Rattle.grib_stream.specs.declared.outcome.Outcome.{Outcome}
use Rattle.grib_stream.specs.declared.outcome.Outcome.TheVariants.{Done, ReadFault, WriteFault, ShelfFault, InputTooLong}
use Rattle.grib_stream.specs.Outcomes.{Kind, Whole, OfMessage, OfShelf, CutShort, kind_of, ends_whole, breaks, cuts_short, cuts_within, stays_open, ends_before, is_whole, is_broken, is_cut_short, is_cut_within, is_open, is_of_message}
use Rattle.grib_stream.proofs.Nexts.{not_true}

-- ---- kinds

whole_stays : (kind : Kind) → ends_whole kind ≡ true → breaks kind ≡ false
whole_stays Whole is = refl
whole_stays other is = absurd (false≢true is)

breaks_early : (kind : Kind) → breaks kind ≡ true → ends_whole kind ≡ false
breaks_early Whole is = sym is
breaks_early other is = refl

unbroken_uncut : (kind : Kind) → breaks kind ≡ false → cuts_short kind ≡ false
unbroken_uncut CutShort is = is
unbroken_uncut other is = refl

short_breaks : (kind : Kind) → cuts_short kind ≡ true → breaks kind ≡ true
short_breaks CutShort is = refl
short_breaks other is = absurd (false≢true is)

within_breaks : (kind : Kind) → cuts_within kind ≡ true → breaks kind ≡ true
within_breaks OfShelf is = refl
within_breaks CutShort is = refl
within_breaks other is = absurd (false≢true is)

message_early : (kind : Kind) → ends_before kind ≡ true → ends_whole kind ≡ false
message_early Whole is = sym is
message_early other is = refl

message_closed : (kind : Kind) → ends_before kind ≡ true → stays_open kind ≡ false
message_closed (OfMessage truncated) is = not_true truncated is
message_closed other is = absurd (false≢true is)

-- ---- outcomes

-- an outcome of which this is true is none of which it is false
other_than : (test : Outcome → Bool) (outcome other : Outcome) → test outcome ≡ true → test other ≡ false → outcome ≢ other
other_than test outcome other on off is = false≢true (sym off ∙ (sym (ap test is) ∙ on))

pub whole_unbroken : (outcome : Outcome) → is_whole outcome ≡ true → is_broken outcome ≡ false
whole_unbroken outcome is = whole_stays (kind_of outcome) is

pub broken_early : (outcome : Outcome) → is_broken outcome ≡ true → is_whole outcome ≡ false
broken_early outcome is = breaks_early (kind_of outcome) is

pub uncut_of : (outcome : Outcome) → is_broken outcome ≡ false → is_cut_short outcome ≡ false
uncut_of outcome is = unbroken_uncut (kind_of outcome) is

pub cut_broken : (outcome : Outcome) → is_cut_short outcome ≡ true → is_broken outcome ≡ true
cut_broken outcome is = short_breaks (kind_of outcome) is

pub record MessageEnds (outcome : Outcome) : Type 0 where
  pub closed : is_open outcome ≡ false
  pub before_end : is_whole outcome ≡ false
  pub not_done : outcome ≢ Done
  pub not_long : outcome ≢ InputTooLong
  pub not_read : outcome ≢ ReadFault

pub of_message : (outcome : Outcome) → is_of_message outcome ≡ true → MessageEnds outcome
of_message outcome is = record {
  closed = message_closed (kind_of outcome) is;
  before_end = message_early (kind_of outcome) is;
  not_done = other_than is_of_message outcome Done is refl;
  not_long = other_than is_of_message outcome InputTooLong is refl;
  not_read = other_than is_of_message outcome ReadFault is refl;
}

-- an outcome with which a run may end within a message
pub record CutWithin (outcome : Outcome) : Type 0 where
  pub broken : is_broken outcome ≡ true
  pub not_done : outcome ≢ Done
  pub not_read : outcome ≢ ReadFault

pub cut_within : (outcome : Outcome) → is_cut_within outcome ≡ true → CutWithin outcome
cut_within outcome cut = record {
  broken = within_breaks (kind_of outcome) cut;
  not_done = other_than is_cut_within outcome Done cut refl;
  not_read = other_than is_cut_within outcome ReadFault cut refl;
}

-- ---- one outcome or another

pub write_or_not : (outcome : Outcome) → (outcome ≡ WriteFault) ⊎ (outcome ≢ WriteFault)
write_or_not WriteFault = inl refl
write_or_not other = inr (λ e. cc)

pub read_or_not : (outcome : Outcome) → (outcome ≡ ReadFault) ⊎ (outcome ≢ ReadFault)
read_or_not ReadFault = inl refl
read_or_not other = inr (λ e. cc)

pub shelf_or_not : (outcome : Outcome) → (outcome ≡ ShelfFault) ⊎ (outcome ≢ ShelfFault)
shelf_or_not ShelfFault = inl refl
shelf_or_not other = inr (λ e. cc)
