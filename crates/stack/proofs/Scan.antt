-- What a test of every index of a range tells, where each call of the closure tells a fact of its index. Assumes nothing.
use Rattle.std.specs.Prelude.{◌≡◌, Option, Bool, true, false, ℕ, ◌+◌, ◌-◌, ◌≤◌, ◌<◌, length}
use Rattle.std.proofs.Common.{refl, sym, ◌∙◌, subst, ⊎_elim, arith}
use Rattle.std.specs.Fn.{Called}
use Rattle.std.specs.Bool.{MatchBool}
use Rattle.std.specs.Iterator.{ChecksAll}
use Rattle.std.specs.List.{range_with_len, AllWithin, HoldsAt}
use Rattle.std.proofs.lemmas.Iterator.{YieldsList, cases_from_all}
use Rattle.std.proofs.lemmas.List.FromFn.{length-range_with_len, get_or-range_with_len}
use denote.Param.Members.{Mut}
use Rattle.words.specs.Choose.{true_not_false, lt_or_le}
use Rattle.stack.specs.Tells.{Tells, tells_map, tells_no, tells_yes}

-- from the cases of `all` over the numbers low to high - 1
cases_tell : (P : ℕ → Type 0) (low many : ℕ) (r : Bool) → MatchBool r (AllWithin P (range_with_len low many) 0 (length (range_with_len low many))) ((k : ℕ) × (k < length (range_with_len low many)) × HoldsAt (λ x. ¬ P x) (range_with_len low many) k)
    → Tells r ((j : ℕ) → low ≤ j → j < low + many → P j)
cases_tell P low many true d =
    tells_yes (λ j a b.
    let k : j - low < many = omega arith in
    let e : low + (j - low) ≡ j = omega arith in
    subst P (get_or-range_with_len low many (j - low) 0 k ∙ e) (d (j - low) 0 (omega arith) (rw length-range_with_len k)))
cases_tell P low many false d =
    tells_no (λ h. let k : d.0 < many = rw length-range_with_len at d.1 in d.2 0 (subst P (sym (get_or-range_with_len low many d.0 0 k)) (h (low + d.0) (omega arith) (omega arith))))

module _ {S F : Type 0} {steps : S → Option ℕ → S → Type 0} {g : Mut F (ℕ × Unit {0}) Bool} {s u : S} {f : F} {r : Bool} (P : ℕ → Type 0) (low many : ℕ) where
  pub tells_all : YieldsList steps (λ x. x) s (range_with_len low many) → ChecksAll steps g s f r u → ((x : ℕ) (b : Bool) (q : F) → Called g f (x, tt) b q → (q ≡ f) × Tells b (P x))
      → Tells r ((j : ℕ) → low ≤ j → j < low + many → P j)
  tells_all y d each =
      cases_tell P low many r
      (cases_from_all u f r P (λ x. ¬ P x) d y (λ x q k. let t = each x true q k in (t.0, t.1.holds refl)) (λ x q k p. let t = each x false q k in true_not_false (t.1.shows p) refl))

-- from `low` on, where those below are known
module _ {S F : Type 0} {steps : S → Option ℕ → S → Type 0} {g : Mut F (ℕ × Unit {0}) Bool} {s u : S} {f : F} {r : Bool} {P : ℕ → Type 0} {low n : ℕ} where
  pub tells_from : ((j : ℕ) → j < low → P j) → YieldsList steps (λ x. x) s (range_with_len low (n - low)) → ChecksAll steps g s f r u
      → ((x : ℕ) (b : Bool) (q : F) → Called g f (x, tt) b q → (q ≡ f) × Tells b (P x)) → Tells r ((j : ℕ) → j < n → P j)
  tells_from below y d each =
      tells_map (λ h j l. ⊎_elim (below j) (λ (a : low ≤ j). h j a (omega arith)) (lt_or_le j low)) (λ h j a l. h j (omega arith)) (tells_all P low (n - low) y d each)

-- from 0 on
module _ {S F : Type 0} {steps : S → Option ℕ → S → Type 0} {g : Mut F (ℕ × Unit {0}) Bool} {s u : S} {f : F} {r : Bool} {P : ℕ → Type 0} {n : ℕ} where
  pub tells_below : YieldsList steps (λ x. x) s (range_with_len 0 n) → ChecksAll steps g s f r u → ((x : ℕ) (b : Bool) (q : F) → Called g f (x, tt) b q → (q ≡ f) × Tells b (P x))
      → Tells r ((j : ℕ) → j < n → P j)
  tells_below y d each = tells_map (λ h j l. h j (omega arith) (omega arith)) (λ h j a l. h j (omega arith)) (tells_all P 0 n y d each)
