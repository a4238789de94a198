-- The sizes that a block may have.
use Rattle.std.specs.Prelude.{◌≡◌, ◌⊎◌, ℕ, Bool, true, false, ◌||◌, ◌==◌, refl}
use Rattle.std.proofs.Common.{inl, inr, eqb-true}
use Rattle.grib_packing.specs.Coded.{is_block}

or_true : (a b : Bool) → (a || b) ≡ true → (a ≡ true) ⊎ (b ≡ true)
or_true true b is = inl refl
or_true false b is = inr is

-- a block whose size passes the test has one of these sizes
pub block_known : (block : ℕ) → is_block block ≡ true → (block ≡ 8) ⊎ ((block ≡ 16) ⊎ ((block ≡ 32) ⊎ (block ≡ 64)))
block_known block is = elim (or_true (block == 8) ((block == 16) || ((block == 32) || (block == 64))) is) [
  | inl one ↦ inl (eqb-true block 8 one)
  | inr more ↦ elim (or_true (block == 16) ((block == 32) || (block == 64)) more) [
    | inl two ↦ inr (inl (eqb-true block 16 two))
    | inr last ↦ elim (or_true (block == 32) (block == 64) last) [
      | inl three ↦ inr (inr (inl (eqb-true block 32 three)))
      | inr four ↦ inr (inr (inr (eqb-true block 64 four)))
    ]
  ]
]
