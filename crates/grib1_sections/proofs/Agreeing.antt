-- Octets that agree up to some place.
use Rattle.std.proofs.Common.{◌≡◌, ℕ, ◌+◌, ◌-◌, ◌≤◌, List, ◌++◌, length, take, refl, sym, ap, ◌∙◌, arith, length-append, length-take-le, take_at}
use Rattle.grib_bits.specs.Octets.{num_on, octets, octet_list}
use Rattle.grib_bits.proofs.Counted.{list_of_front}
use Rattle.grib1_sections.specs.Frame.{section_at, after}

-- the first n octets of u and of w are the same
pub record Agree (n : ℕ) (u w : List ℕ) : Type 0 where
  pub long_u : n ≤ length u
  pub long_w : n ≤ length w
  pub lists : (first last : ℕ) → 1 ≤ first → first ≤ last → last ≤ n → octet_list w first last ≡ octet_list u first last

pub agree_front : (m : List ℕ) (n : ℕ) → n ≤ length m → Agree n m (take n m)
agree_front m n within = record {
  long_u = within;
  long_w = omega (arith, length-take-le n m within);
  lists = λ first last low order inside. list_of_front m n first last low order inside;
}

-- octets, and the same with more behind them
pub agree_more : (u more : List ℕ) → Agree (length u) u (u ++ more)
agree_more u more = record {
  long_u = omega arith;
  long_w = omega (arith, length-append u more);
  lists = λ first last low order within.
      sym (list_of_front (u ++ more) (length u) first last low order within)
      ∙ ap (λ xs. octet_list xs first last) (take_at u more (length u) refl);
}

pub same_octets : (n : ℕ) (u w : List ℕ) (first last : ℕ) → Agree n u w → 1 ≤ first → first ≤ last → last ≤ n → octets w first last ≡ octets u first last
same_octets n u w first last h low order within = ap (num_on 0) (h.lists first last low order within)

-- a section at q stands within the first n octets
pub record Inside (n : ℕ) (m : List ℕ) (q : ℕ) : Type 0 where
  pub low : 1 ≤ q
  pub begins : q + 2 ≤ n
  pub some : 1 ≤ octets m q (q + 2)
  pub ends : q - 1 + octets m q (q + 2) ≤ n

pub same_section : (n : ℕ) (u w : List ℕ) (q : ℕ) → Agree n u w → Inside n u q → section_at w q ≡ section_at u q
same_section n u w q h i =
    ap (λ l. octet_list w q (q - 1 + l)) (same_octets n u w q (q + 2) h i.low (omega arith) i.begins)
    ∙ h.lists q (q - 1 + octets u q (q + 2)) i.low (omega (arith, i.low, i.some)) i.ends

pub same_after : (n : ℕ) (u w : List ℕ) (q : ℕ) → Agree n u w → Inside n u q → after w q ≡ after u q
same_after n u w q h i = ap (λ l. q + l) (same_octets n u w q (q + 2) h i.low (omega arith) i.begins)
