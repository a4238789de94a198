use Rattle.std.proofs.Common.{◌≡◌, ℕ, ◌-◌, ◌≤◌, List, ◌++◌, length, take, drop, sym, ap, ◌∙◌, subst, arith}
use Rattle.std.proofs.lemmas.List.{take_rest, drop_at}
use Rattle.grib1_select.proofs.changing.append_changed.Goals as goal

-- what stands behind the octets that were there
behind : (out s all : List ℕ) (start : ℕ) → all ≡ out ++ s → length out ≡ start → take (length all - start) (drop start all) ≡ s
behind out s all start is long = take_rest all start ∙ ap (drop start) is ∙ drop_at out s start long

pub change_section-requires : goal.change_section-requires
change_section-requires c =
    subst (λ (s : List ℕ). 28 ≤ length s)
    (sym (behind c.args.out.now.items c.args.section.now c.deref_mut.result.now c.len-start.result (c.deref_mut.ensures.value ∙ c.in_ok-extend_from_slice.ensures.items) (omega (arith, c.len-start.ensures, c.args.out.now.ok.0))))
    c.requires
