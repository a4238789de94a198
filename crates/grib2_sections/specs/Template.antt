-- A table of templates, each with the least length of its section in octets.
use Rattle.std.specs.Prelude.{ℕ, Bool, List, ◌==◌, find}
use Rattle.std.specs.List.{list_any}
use Rattle.std.specs.Option.{option_map_or}

pub record Template : Type 0 where
  pub number : ℕ
  pub least : ℕ

abbrev pub template : ℕ → ℕ → Template
template number least = record { number = number; least = least }

abbrev pub is_template : List Template → ℕ → Bool
is_template templates number = list_any (λ t. t.number == number) templates

-- the least length with this template, 0 where the table lacks it
abbrev pub least_length : List Template → ℕ → ℕ
least_length templates number = option_map_or (λ t. t.least) (find (λ t. t.number == number) templates) 0
