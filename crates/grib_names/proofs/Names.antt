-- Names are texts.
use Rattle.std.proofs.Common.{◌≡◌, ◌<◌, ℕ, Bool, true, false, List, [], ◌∷◌, suc, zero, length, arith}
use Rattle.std.specs.Prelude.{◌&&◌, nat_le}
use Rattle.std.specs.List.{list_all}
use Rattle.std.specs.Str.{IsAscii, IsUtf8}
use Rattle.std.proofs.lemmas.Bool.{and_parts}
use Rattle.std.proofs.lemmas.Str.{IsUtf8-from_ascii}
use Rattle.grib_names.specs.Rows.{is_name, is_name_octet}

octet : (c : ℕ) → is_name_octet c ≡ true → c < 128
octet c e = grind arith

octets : (field : List ℕ) → list_all is_name_octet field ≡ true → IsAscii field
octets [] e i = omega arith
octets (c ∷ rest) e zero = octet c (and_parts _ _ e).0
octets (c ∷ rest) e (suc i) = octets rest (and_parts _ _ e).1 i

pub is_text : (field : List ℕ) → is_name field ≡ true → IsUtf8 field
is_text field e =
    IsUtf8-from_ascii field (octets field (and_parts (nat_le 1 (length field) && nat_le (length field) 32) (list_all is_name_octet field) e).1)
