-- Tests that carry their meaning: `Dec P` is a proof of P or of its contrary. They compute, and a caller that has the answer
-- has the fact. Assumes nothing.
use Rattle.std.specs.Prelude.{◌≡◌, refl, ◌⊎◌, List, [], ◌∷◌, ℕ, zero, suc, ◌<◌}
use Rattle.std.proofs.Common.{sym, ap, ap₂, subst, inl, inr, not-suc-le-zero, arith}
use mathlib.Core.Bool.{Bool, true, false}
use Rattle.std.proofs.Math.Decide.{ℕ_discrete}

-- the answer alone
abbrev pub does : {A : Type 0} → Dec A → Bool
does (yes a) = true
does (no n) = false

pub does_true : {A : Type 0} (d : Dec A) → does d ≡ true → A
does_true (yes a) e = a
does_true (no n) e = absurd (mathlib.Core.Bool.false≢true e)

pub true_does : {A : Type 0} (d : Dec A) → A → does d ≡ true
true_does (yes a) h = refl
true_does (no n) h = absurd (n h)

pub does_false : {A : Type 0} (d : Dec A) → does d ≡ false → ¬ A
does_false (yes a) e = absurd (mathlib.Core.Bool.false≢true (sym e))
does_false (no n) e = n

unfoldable pub dec_both : {A B : Type 0} → Dec A → Dec B → Dec (A × B)
dec_both (yes a) (yes b) = yes (a, b)
dec_both (no n) _ = no (λ h. n h.0)
dec_both (yes a) (no n) = no (λ h. n h.1)

unfoldable pub dec_either : {A B : Type 0} → Dec A → Dec B → Dec (A ⊎ B)
dec_either (yes a) _ = yes (inl a)
dec_either (no n) (yes b) = yes (inr b)
dec_either (no n) (no m) = no (λ h. elim h [ inl a ↦ n a | inr b ↦ m b ])

unfoldable pub dec_imp : {A B : Type 0} → Dec A → Dec B → Dec (A → B)
dec_imp (yes a) (yes b) = yes (λ x. b)
dec_imp (yes a) (no n) = no (λ f. n (f a))
dec_imp (no m) d = yes (λ x. absurd (m x))

unfoldable pub dec_not : {A : Type 0} → Dec A → Dec (¬ A)
dec_not (yes a) = no (λ n. n a)
dec_not (no n) = yes n

-- a fact of every number below n
unfoldable pub dec_all : {P : ℕ → Type 0} → ((i : ℕ) → Dec (P i)) → (n : ℕ) → Dec ((i : ℕ) → i < n → P i)
dec_all {P} d zero = yes (λ i h. absurd (not-suc-le-zero h))
dec_all {P} d (suc n) = go (dec_all d n) (d n)
  where
    go : Dec ((i : ℕ) → i < n → P i) → Dec (P n) → Dec ((i : ℕ) → i < suc n → P i)
    go (yes f) (yes p) = yes (λ i h. elim (ℕ_discrete i n) [ yes e ↦ rw e p | no k ↦ f i (omega arith) ])
    go (yes f) (no m) = no (λ g. m (g n (omega arith)))
    go (no m) _ = no (λ g. m (λ i h. g i (omega arith)))

-- a fact of some number below n
unfoldable pub dec_any : {P : ℕ → Type 0} → ((i : ℕ) → Dec (P i)) → (n : ℕ) → Dec ((i : ℕ) × ((i < n) × P i))
dec_any {P} d zero = no (λ h. absurd (not-suc-le-zero h.1.0))
dec_any {P} d (suc n) = go (dec_any d n) (d n)
  where
    go : Dec ((i : ℕ) × ((i < n) × P i)) → Dec (P n) → Dec ((i : ℕ) × ((i < suc n) × P i))
    go (yes h) _ = yes (h.0, (let l = h.1.0 in omega arith, h.1.1))
    go (no m) (yes p) = yes (n, (omega arith, p))
    go (no m) (no k) = no (λ h. elim (ℕ_discrete h.0 n) [ yes e ↦ k (subst P e h.1.1) | no j ↦ m (h.0, (let l = h.1.0 in omega arith, h.1.1)) ])

-- a fact of some x, where only w can be that x
unfoldable pub dec_the : {W : Type 0} {P : W → Type 0} (w : W) → ((x : W) → P x → x ≡ w) → Dec (P w) → Dec ((x : W) × P x)
dec_the {W} {P} w u (yes p) = yes (w, p)
dec_the {W} {P} w u (no n) = no (λ h. n (subst P (u h.0 h.1) h.1))

-- the same test, said otherwise
unfoldable pub map_dec : {A B : Type 0} → (A → B) → (B → A) → Dec A → Dec B
map_dec f g (yes a) = yes (f a)
map_dec f g (no n) = no (λ b. n (g b))

-- equal lists
abbrev pub is_cons : {A : Type 0} → List A → ℕ
is_cons [] = 0
is_cons (x ∷ xs) = 1

abbrev pub head_or : {A : Type 0} → A → List A → A
head_or d [] = d
head_or d (x ∷ xs) = x

abbrev pub tail_of : {A : Type 0} → List A → List A
tail_of [] = []
tail_of (x ∷ xs) = xs

unfoldable pub dec_list : {A : Type 0} → ((x y : A) → Dec (x ≡ y)) → (xs ys : List A) → Dec (xs ≡ ys)
dec_list d [] [] = yes refl
dec_list d [] (y ∷ ys) = no (λ e. let h = ap is_cons e in absurd (omega arith))
dec_list d (x ∷ xs) [] = no (λ e. let h = ap is_cons e in absurd (omega arith))
dec_list {A} d (x ∷ xs) (y ∷ ys) =
    map_dec (λ h. ap₂ {C = List A} ◌∷◌ h.0 h.1) (λ e. (ap (head_or x) e, ap tail_of e)) (dec_both (d x y) (dec_list d xs ys))

-- a fact of each element of a list
pub data Each {A : Type 0} (P : A → Type 0) : List A → Type 0 where
  none : Each P []
  more : {x : A} {xs : List A} → P x → Each P xs → Each P (x ∷ xs)

unfoldable pub dec_each : {A : Type 0} {P : A → Type 0} → ((x : A) → Dec (P x)) → (xs : List A) → Dec (Each P xs)
dec_each d [] = yes none
dec_each {A} {P} d (x ∷ xs) = go (d x) (dec_each d xs)
  where
    go : Dec (P x) → Dec (Each P xs) → Dec (Each P (x ∷ xs))
    go (yes h) (yes u) = yes (more h u)
    go (yes h) (no k) = no (λ w. elim w [ more a b ↦ k b ])
    go (no k) _ = no (λ w. elim w [ more a b ↦ k a ])
