-- The group of a kind: each range of document 01's kinds has its group, and 36 to 39 of document 02 are memory's. Assumes nothing.
use Rattle.std.specs.Prelude.{◌≡◌, refl, true, false, ◌||◌, ◌⊎◌, ℕ, ◌≤◌, ◌<◌, leb}
use Rattle.std.proofs.Common.{inl, inr, ⊎_elim, arith, leb-true, leb-false, le-leb}
use Rattle.words.specs.Choose.{cond_split, both, both_of, not_both, either, right_of, neither}
use Rattle.rules.specs.File.{within, first_memory, last_memory, first_control, last_control, first_untyped, last_untyped, group_of}
use Rattle.rules.specs.declared.Group.{Group}
use Rattle.rules.specs.declared.Group.TheVariants.{Arithmetic, Memory, Control}

-- a test of a range, read
in_range_law : (k lo hi : ℕ) → within k lo hi ≡ true → (lo ≤ k) × (k ≤ hi)
in_range_law k lo hi e = let q = both (leb lo k) (leb k hi) e in (leb-true lo k q.0, leb-true k hi q.1)

out_of_range : (k lo hi : ℕ) → within k lo hi ≡ false → (k < lo) ⊎ (hi < k)
out_of_range k lo hi e = ⊎_elim (λ a. inl (leb-false lo k a)) (λ a. inr (leb-false k hi a)) (not_both (leb lo k) (leb k hi) e)

-- what each group has in its ranges, the group of a kind has
pub group_split : (P : Group → Type 0) (k : ℕ) → ((k < first_memory) ⊎ (last_control < k) → P Arithmetic) → (first_memory ≤ k → k ≤ last_memory → P Memory)
    → (first_untyped ≤ k → k ≤ last_untyped → P Memory) → (first_control ≤ k → k ≤ last_control → P Control) → P (group_of k)
unfolding group_of
group_split P k a m u c =
    cond_split P (within k first_memory last_memory || within k first_untyped last_untyped) _ _
    (λ e. ⊎_elim (λ q. let h = in_range_law k first_memory last_memory q in m h.0 h.1) (λ q. let h = in_range_law k first_untyped last_untyped q in u h.0 h.1) (either _ _ e))
    (λ e. cond_split P (within k first_control last_control) _ _ (λ q. let h = in_range_law k first_control last_control q in c h.0 h.1)
    (λ q. a (⊎_elim (λ l. inl l) (λ l. ⊎_elim (λ h. absurd (omega arith)) (λ h. inr h) (out_of_range k first_control last_control q)) (out_of_range k first_memory last_memory (neither _ _ e).0))))

module _ (k : ℕ) where
  -- 35 and what is past the last kind are no instructions
  pub group_arithmetic : (k < first_memory) ⊎ (((last_control < k) × (k < first_untyped)) ⊎ (last_untyped < k)) → group_of k ≡ Arithmetic
  group_arithmetic o = group_split (λ g. g ≡ Arithmetic) k (λ _. refl) (λ l h. absurd (out o (inl (l, h)))) (λ l h. absurd (out o (inr (inl (l, h))))) (λ l h. absurd (out o (inr (inr (l, h)))))
    where
      out : (k < first_memory) ⊎ (((last_control < k) × (k < first_untyped)) ⊎ (last_untyped < k))
          → ((first_memory ≤ k) × (k ≤ last_memory)) ⊎ (((first_untyped ≤ k) × (k ≤ last_untyped)) ⊎ ((first_control ≤ k) × (k ≤ last_control))) → ⊥
      out (inl a) (inl h) = omega (arith, h.0)
      out (inl a) (inr (inl h)) = omega (arith, h.0)
      out (inl a) (inr (inr h)) = omega (arith, h.0)
      out (inr (inl a)) (inl h) = omega (arith, a.0, h.1)
      out (inr (inl a)) (inr (inl h)) = omega (arith, a.1, h.0)
      out (inr (inl a)) (inr (inr h)) = omega (arith, a.0, h.1)
      out (inr (inr a)) (inl h) = omega (arith, h.1)
      out (inr (inr a)) (inr (inl h)) = omega (arith, h.1)
      out (inr (inr a)) (inr (inr h)) = omega (arith, h.1)

  pub group_memory : first_memory ≤ k → k ≤ last_memory → group_of k ≡ Memory
  group_memory l h =
      group_split (λ g. g ≡ Memory) k (⊎_elim (λ a. absurd (omega arith)) (λ a. absurd (omega arith))) (λ _ _. refl) (λ _ _. refl) (λ a b. absurd (omega arith))

  -- 36 to 39 are memory's too
  pub group_untyped : first_untyped ≤ k → k ≤ last_untyped → group_of k ≡ Memory
  unfolding group_of
  group_untyped l h = rw (right_of (within k first_memory last_memory) (within k first_untyped last_untyped) (both_of (le-leb first_untyped k l) (le-leb k last_untyped h)))

  pub group_control : first_control ≤ k → k ≤ last_control → group_of k ≡ Control
  group_control l h =
      group_split (λ g. g ≡ Control) k (⊎_elim (λ a. absurd (omega arith)) (λ a. absurd (omega arith))) (λ a b. absurd (omega arith)) (λ a b. absurd (omega arith)) (λ _ _. refl)
