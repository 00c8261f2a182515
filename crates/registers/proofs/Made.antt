-- An array that is made by calls at each index: it is the list of what they give. Assumes nothing.
use Rattle.std.specs.Prelude.{◌≡◌, List, ℕ, zero, suc, ◌+◌, ◌≤◌, ◌<◌}
use Rattle.std.proofs.Common.{refl, sym, ◌∙◌, subst, ⊎_elim, ext_get_or, arith}
use Rattle.std.proofs.Math.ListN.{get_or}
use Rattle.std.specs.Array.{IsFromFnResult, IsFromFnResultFrom}
use Rattle.std.specs.Fn.{Called}
use denote.Param.Members.{Mut}
use Rattle.words.specs.Bytes.{list_of}
use Rattle.words.specs.ByteLaws.{length_list_of, get_d_list_of}
use Rattle.words.specs.Choose.{lt_or_le}

module _ {F : Type 0} {g : Mut F (ℕ × Unit {0}) ℕ} {f : F} (h : ℕ → ℕ) (each : (i b : ℕ) (q : F) → Called g f (i, tt) b q → (q ≡ f) × (b ≡ h i)) where
  made_at : (ys : List ℕ) (n i : ℕ) (p : F) → p ≡ f → IsFromFnResultFrom g p ys i n → (j : ℕ) → i ≤ j → j < i + n → get_or ys j 0 ≡ h j
  made_at ys zero i p e m j a b = absurd (omega arith)
  made_at ys (suc n) i p e m j a b =
      let k = each i m.1 m.0 (subst (λ (z : F). Called g z (i, tt) m.1 m.0) e m.3) in
      ⊎_elim (λ (l : i < j). made_at ys n (i + 1) m.0 k.0 m.4 j (omega arith) (omega arith))
      (λ (l : j ≤ i). let q : j ≡ i = omega arith in rw q (m.2.1 0 ∙ k.1))
      (lt_or_le i j)

  pub made : (ys : List ℕ) (n : ℕ) → IsFromFnResult g f ys n → ys ≡ list_of h n
  made ys n m =
      ext_get_or 0 ys (list_of h n) (m.long ∙ sym (length_list_of h n))
      (λ i l. let b : i < n = rw m.long at l in made_at ys n 0 f refl m.each i (omega arith) (omega arith) ∙ sym (get_d_list_of h n i 0 b))
