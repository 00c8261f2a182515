-- Tests of all entries, in a row, as the definition's tests of four and of seven. Assumes nothing.
use Rattle.std.specs.Prelude.{◌≡◌, refl, Bool, true, false, ◌&&◌, [], ◌∷◌, ℕ, ◌/◌, ◌%◌, ◌<◌, ◌^◌}
use Rattle.std.proofs.Common.{arith}
use Rattle.std.specs.List.{list_all, enumerate_from}
use Rattle.words.specs.Bytes.{list_of, list_from}
use Rattle.rules.specs.Limits.{most_entries}
use Rattle.rules.specs.File.{byte_of_d, entry_of}
use Rattle.rules.specs.Records.{slot, four, seven, loose, four_loose, seven_loose}
use Rattle.rules.specs.declared.Record.{Record}

and_four : (a b c d : Bool) → (a && (b && (c && (d && true)))) ≡ ((a && b) && (c && d))
and_four false b c d = refl
and_four true false c d = refl
and_four true true false d = refl
and_four true true true false = refl
and_four true true true true = refl

and_seven : (a b c d e f g : Bool) → (a && (b && (c && (d && (e && (f && (g && true))))))) ≡ (((a && b) && (c && d)) && ((e && f) && g))
and_seven false b c d e f g = refl
and_seven true false c d e f g = refl
and_seven true true false d e f g = refl
and_seven true true true false e f g = refl
and_seven true true true true false f g = refl
and_seven true true true true true false g = refl
and_seven true true true true true true false = refl
and_seven true true true true true true true = refl

module _ (x : Record) (n lim : ℕ) where
  pub slots_four : x.d < 2 ^ 32
      → list_all (λ e. slot e.1 e.0 n lim) (enumerate_from 0 (x.d % 256 ∷ x.d / 256 % 256 ∷ x.d / 65536 % 256 ∷ x.d / 16777216 % 256 ∷ [])) ≡ four x n lim
  unfolding four
  slots_four h =
      let e : x.d / 16777216 % 256 ≡ x.d / 16777216 = omega arith in
      let s : ℕ → Bool = λ j. slot (byte_of_d x j) j n lim in
      rw e (and_four (s 0) (s 1) (s 2) (s 3))

  pub slots_seven : list_all (λ e. slot e.1 e.0 n lim) (enumerate_from 0 (list_of (entry_of x) most_entries)) ≡ seven x n lim
  unfolding seven list_from
  slots_seven = let s : ℕ → Bool = λ j. slot (entry_of x j) j n lim in and_seven (s 0) (s 1) (s 2) (s 3) (s 4) (s 5) (s 6)

module _ (x : Record) (lim : ℕ) where
  pub loose_four : x.d < 2 ^ 32
      → list_all (λ v. loose v lim) (x.d % 256 ∷ x.d / 256 % 256 ∷ x.d / 65536 % 256 ∷ x.d / 16777216 % 256 ∷ []) ≡ four_loose x lim
  unfolding four_loose
  loose_four h =
      let e : x.d / 16777216 % 256 ≡ x.d / 16777216 = omega arith in
      let s : ℕ → Bool = λ j. loose (byte_of_d x j) lim in
      rw e (and_four (s 0) (s 1) (s 2) (s 3))

  pub loose_seven : list_all (λ v. loose v lim) (list_of (entry_of x) most_entries) ≡ seven_loose x lim
  unfolding seven_loose list_from
  loose_seven = let s : ℕ → Bool = λ j. loose (entry_of x j) lim in and_seven (s 0) (s 1) (s 2) (s 3) (s 4) (s 5) (s 6)
