-- What a comparison of terms rests on: substitutions, as lists of bytes, that of variable 0 first; tests as Booleans; that what is inside
-- a term is at a lower place. Assumes nothing.
use Rattle.std.specs.Prelude.{◌≡◌, refl, Bool, true, false, ◌&&◌, List, [], ◌∷◌, map, ℕ, zero, suc, ◌<◌, ◌≤◌, eqb, length, get_or}
use Rattle.std.proofs.Common.{sym, ap, ap₂, ◌∙◌, arith, eq-eqb, ne_eqb}
use Rattle.std.proofs.Math.Decide.{ℕ_discrete}
use Rattle.std.proofs.Math.ListN.{get_or-map}
use Rattle.words.specs.Bytes.{Bytes}
use Rattle.words.specs.Choose.{bool_same}
use Rattle.words.specs.Decide.{does, does_true, true_does, dec_both, map_dec}
use Rattle.rules.specs.Types.{RegionKind, Region, Variable, region, dec_region, form, dec_tree, Tree, int, ptr, arr, struct, raw_ptr, bytes, sub, arg, nowhere}
use Rattle.terms.specs.declared.Head.{Head}
use Rattle.terms.specs.declared.Head.TheVariants.{Int, Ptr, Arr, Struct, Untyped}
use Rattle.terms.specs.Heads.{inner_no}
use Rattle.terms.specs.HeadLaws.{Fair}

-- ---- substitutions as bytes

-- the region that stands for variable v
abbrev pub byte_under : Bytes → ℕ → ℕ
byte_under p v = get_or p v nowhere

abbrev pub under : {k : RegionKind} → Bytes → Variable → Region k
under p v = arg (map region p) v

pub under_is : {k : RegionKind} (p : Bytes) (v : Variable) → under {k = k} p v ≡ region (byte_under p v.number)
under_is p v = get_or-map region p v.number nowhere

-- inside the list the default does not count
pub get_d_any : {A : Type 0} (l : List A) (i : ℕ) (d e : A) → i < length l → get_or l i d ≡ get_or l i e
get_d_any [] i d e h = absurd (omega arith)
get_d_any (x ∷ l) zero d e h = refl
get_d_any (x ∷ l) (suc i) d e h = get_d_any l i d e (omega arith)

-- substitutions that put the same for every variable
pub sub_same : {j k : RegionKind} (σ τ : Region j → Region k) → ((v : Region j) → σ v ≡ τ v) → (T : Tree j) → sub σ T ≡ sub τ T
unfolding sub
sub_same σ τ h (int w) = refl
sub_same {k = k} σ τ h (ptr T r) = ap₂ {C = Tree k} ptr (sub_same σ τ h T) (h r)
sub_same {k = k} σ τ h (arr n T) = ap {B = Tree k} (arr n) (sub_same σ τ h T)
sub_same {k = k} σ τ h (raw_ptr n r) = ap {B = Tree k} (raw_ptr n) (h r)
sub_same σ τ h bytes = refl
sub_same {j} {k} σ τ h (struct N rs) = ap {B = Tree k} (struct N) (maps rs)
  where
    maps : (rs : List (Region j)) → map σ rs ≡ map τ rs
    maps [] = refl
    maps (r ∷ rs) = ap₂ {C = List (Region k)} ◌∷◌ (h r) (maps rs)

-- a substitution keeps the form
pub form_sub : {j k : RegionKind} (σ : Region j → Region k) (T : Tree j) → form (sub σ T) ≡ form T
unfolding sub
form_sub σ (int w) = refl
form_sub σ (ptr T r) = refl
form_sub σ (arr n T) = refl
form_sub σ (struct N rs) = refl
form_sub σ (raw_ptr n r) = refl
form_sub σ bytes = refl

-- ---- tests as Booleans

does_is : {A : Type 0} (d : Dec A) (b : Bool) → (A → b ≡ true) → (¬ A → b ≡ false) → does d ≡ b
does_is (yes a) b f g = sym (f a)
does_is (no n) b f g = sym (g n)

pub does_map : {A B : Type 0} (f : A → B) (g : B → A) (d : Dec A) → does (map_dec f g d) ≡ does d
unfolding map_dec
does_map f g (yes a) = refl
does_map f g (no n) = refl

pub does_both : {A B : Type 0} (d : Dec A) (e : Dec B) → does (dec_both d e) ≡ does d && does e
unfolding dec_both
does_both (yes a) (yes b) = refl
does_both (yes a) (no n) = refl
does_both (no n) (yes b) = refl
does_both (no n) (no k) = refl

pub does_nat : (m n : ℕ) → does (ℕ_discrete m n) ≡ eqb m n
does_nat m n = does_is (ℕ_discrete m n) (eqb m n) (eq-eqb m n) (ne_eqb m n)

pub does_region : {k : RegionKind} (r s : Region k) → does (dec_region r s) ≡ eqb r.number s.number
unfolding dec_region
does_region r s = does_map _ _ (ℕ_discrete r.number s.number) ∙ does_nat r.number s.number

-- trees of other forms
pub tree_other : {k : RegionKind} (T U : Tree k) → (form T ≡ form U → ⊥) → does (dec_tree T U) ≡ false
tree_other T U h = does_is (dec_tree T U) false (λ e. absurd (h (ap form e))) (λ _. refl)

-- what decides whether two trees are equal
pub tree_same : {k : RegionKind} (T U : Tree k) (b : Bool) → (T ≡ U → b ≡ true) → (b ≡ true → T ≡ U) → does (dec_tree T U) ≡ b
tree_same T U b to from = bool_same (does (dec_tree T U)) b (λ h. to (does_true (dec_tree T U) h)) (λ h. true_does (dec_tree T U) (from h))

-- ---- along a term

-- what is inside is at a lower place
pub inner_less : (p : ℕ) (h : Head) → Fair p h → 0 < p → inner_no h < p
inner_less p (Int w) e l = l
inner_less p (Ptr a r) e l = e.0
inner_less p (Arr n a) e l = e.0
inner_less p (Struct N n d) e l = l
inner_less p (Untyped n r) e l = l

-- and at place 0 there is nothing inside
pub inner_le : (p : ℕ) (h : Head) → Fair p h → inner_no h ≤ p
inner_le p (Int w) e = omega arith
inner_le p (Ptr a r) e = let l = e.0 in omega arith
inner_le p (Arr n a) e = let l = e.0 in omega arith
inner_le p (Struct N n d) e = omega arith
inner_le p (Untyped n r) e = omega arith
