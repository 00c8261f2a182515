-- Laws of heads: a tree is its head with the trees of lower places inside; what the module's terms and fields are by places.
-- Assumes nothing.
use Rattle.std.specs.Prelude.{◌≡◌, refl, Bool, ℕ, zero, suc, ◌+◌, ◌-◌, ◌/◌, ◌<◌, ◌≤◌, eqb, get_or}
use Rattle.std.proofs.Common.{sym, ◌∙◌, subst, ⊎_elim, arith}
use Rattle.std.proofs.Math.Path.{ap}
use mathlib.Core.List.{[], ◌∷◌, ◌++◌}
use Rattle.std.proofs.Math.ListN.{length-append, get_or-append, get_or-eq_default}
use Rattle.std.proofs.lemmas.List.{get_or_at}
use Rattle.words.specs.Bytes.{Bytes, AllBytes}
use Rattle.words.specs.ByteLaws.{list_of_agree, number_lt}
use Rattle.words.specs.Choose.{cond_lt, cond_nlt, cond_ne, cond_ap, cond_split, lt_or_le, split_lt}
use Rattle.rules.specs.File.{record_of, record_start, byte_of_d}
use Rattle.rules.specs.Types.{variable, region, Tree}
use Rattle.rules.specs.Decode.{no_tree, region_bytes, tree_of, trees_of}
use Rattle.rules.specs.declared.Record.{Record}
use Rattle.typing.specs.Types.{trees_length}
use Rattle.terms.specs.declared.Head.{Head}
use Rattle.terms.specs.declared.Head.TheVariants.{Int, Ptr, Arr, Struct, Untyped}
use Rattle.terms.specs.Heads.{digit, args_of, place_of, tree_at, head_from, head_of, grow}

-- ---- the bytes of d

pub digit_top : (d j : ℕ) → 2 < j → digit d j ≡ d / 16777216
digit_top d zero h = absurd (omega arith)
digit_top d (suc zero) h = absurd (omega arith)
digit_top d (suc (suc zero)) h = absurd (omega arith)
digit_top d (suc (suc (suc j))) h = refl

pub digit_byte : (x : Record) (j : ℕ) → digit x.d j ≡ byte_of_d x j
digit_byte x zero = refl
digit_byte x (suc zero) = refl
digit_byte x (suc (suc zero)) = refl
digit_byte x (suc (suc (suc j))) = refl

pub digit_lt : (d j : ℕ) → d < 4294967296 → digit d j < 256
digit_lt d zero h = omega arith
digit_lt d (suc zero) h = omega arith
digit_lt d (suc (suc zero)) h = omega arith
digit_lt d (suc (suc (suc j))) h = omega arith

-- ---- the head by the record's kind

module _ (t : ℕ) (x : Record) where
  pub head_int : x.kind ≡ 1 → head_from t x ≡ Int x.a
  unfolding head_from
  head_int e = rw e

  pub head_ptr : x.kind ≡ 2 → head_from t x ≡ Ptr (place_of t x.a) x.b
  unfolding head_from
  head_ptr e = rw e

  pub head_arr : x.kind ≡ 3 → head_from t x ≡ Arr x.d (place_of t x.a)
  unfolding head_from
  head_arr e = rw e

  pub head_untyped : x.kind ≡ 11 → head_from t x ≡ Untyped x.d x.a
  unfolding head_from
  head_untyped e = rw e

  pub head_struct : (x.kind ≡ 1 → ⊥) → (x.kind ≡ 2 → ⊥) → (x.kind ≡ 3 → ⊥) → (x.kind ≡ 11 → ⊥) → head_from t x ≡ Struct x.a x.b x.d
  unfolding head_from
  head_struct p q r u = cond_ne _ _ p ∙ cond_ne _ _ q ∙ cond_ne _ _ r ∙ cond_ne _ _ u

pub head_none : (f : Bytes) (p : ℕ) → p ≡ 0 → head_of f p ≡ Int 1
unfolding head_of
head_none f p e = rw e

pub head_some : (f : Bytes) (p : ℕ) → (p ≡ 0 → ⊥) → head_of f p ≡ head_from (p - 1) (record_of f (p - 1))
unfolding head_of
head_some f zero h = absurd (h refl)
head_some f (suc t) h = let e : suc t - 1 ≡ t = omega arith in rw e

-- ---- places

pub place_in_law : (n t : ℕ) → t < n → place_of n t ≡ suc t
unfolding place_of
place_in_law n t h = cond_lt (suc t) 0 h

pub place_out : (n t : ℕ) → n ≤ t → place_of n t ≡ 0
unfolding place_of
place_out n t h = cond_nlt (suc t) 0 h

pub place_le : (n t : ℕ) → place_of n t ≤ n
unfolding place_of
place_le n t = split_lt (λ (p : ℕ). p ≤ n) t n (suc t) 0 (λ h. omega arith) (λ h. omega arith)

-- the first n trees, by places
module _ (f : Bytes) (n t : ℕ) (before : get_or (trees_of f n) t no_tree ≡ tree_at f (place_of n t)) where
  abbrev new : Tree variable
  new = tree_of (trees_of f n) (record_of f n)

  tree_old : t < n → get_or (trees_of f n ++ new ∷ []) t no_tree ≡ tree_at f (place_of (suc n) t)
  tree_old h =
      get_or-append (trees_of f n) (new ∷ []) no_tree t (omega (arith, trees_length f n)) ∙ before
      ∙ ap (tree_at f) (place_in_law n t h ∙ sym (place_in_law (suc n) t (omega arith)))

  tree_last : t ≡ n → get_or (trees_of f n ++ new ∷ []) t no_tree ≡ tree_at f (place_of (suc n) t)
  unfolding tree_at
  tree_last e = rw (e, place_in_law (suc n) n (omega arith)) (get_or_at (trees_of f n) new [] no_tree n (trees_length f n))

  tree_past : n < t → get_or (trees_of f n ++ new ∷ []) t no_tree ≡ tree_at f (place_of (suc n) t)
  unfolding tree_at
  tree_past h =
      get_or-eq_default (trees_of f n ++ new ∷ []) no_tree (omega (arith, trees_length f n, length-append (trees_of f n) (new ∷ [])))
      ∙ ap (tree_at f) (sym (place_out (suc n) t (omega arith)))

  tree_more : get_or (trees_of f n ++ new ∷ []) t no_tree ≡ tree_at f (place_of (suc n) t)
  tree_more = ⊎_elim tree_old (λ h. ⊎_elim tree_past (λ e. tree_last (omega arith)) (lt_or_le n t)) (lt_or_le t n)

pub trees_at : (f : Bytes) (n t : ℕ) → get_or (trees_of f n) t no_tree ≡ tree_at f (place_of n t)
unfolding trees_of tree_at
trees_at f zero t = rw (place_out 0 t (omega arith))
trees_at f (suc n) t = tree_more f n t (trees_at f n t)

-- a tree is its head with the trees inside
args_are : (x : Record) (n : ℕ) → region_bytes x n ≡ args_of x.d n
unfolding region_bytes args_of
args_are x n = list_of_agree (λ j. region (byte_of_d x j)) (λ j. region (digit x.d j)) n (λ j h. ap region (sym (digit_byte x j)))

tree_from : (f : Bytes) (t : ℕ) (x : Record) → tree_of (trees_of f t) x ≡ grow (tree_at f) (head_from t x)
unfolding tree_of head_from grow
tree_from f t x =
    let one : Bool = eqb x.kind 1 in
    let two : Bool = eqb x.kind 2 in
    let three : Bool = eqb x.kind 3 in
    let untyped : Bool = eqb x.kind 11 in
    simp (trees_at f t x.a, args_are x x.b, cond_ap (grow (tree_at f)))

pub tree_step : (f : Bytes) (p : ℕ) → tree_at f p ≡ grow (tree_at f) (head_of f p)
unfolding tree_at head_of grow
tree_step f zero = refl
tree_step f (suc t) = tree_from f t (record_of f t)

-- what a head says of its numbers: what is inside is at a lower place, and all is as wide as it is written
abbrev pub Fair : ℕ → Head → Type 0
Fair p (Int w) = w < 256
Fair p (Ptr a r) = (a < p) × (r < 256)
Fair p (Arr n a) = (a < p) × (n < 4294967296)
Fair p (Struct N n d) = (N < 256) × (n < 256) × (d < 4294967296)
Fair p (Untyped n r) = (n < 4294967296) × (r < 256)

fair_from : (t : ℕ) (x : Record) → x.a < 256 → x.b < 256 → x.d < 4294967296 → Fair (suc t) (head_from t x)
unfolding head_from
fair_from t x a b d =
    let l = place_le t x.a in
    cond_split (Fair (suc t)) (eqb x.kind 1) _ _ (λ _. a)
    (λ _. cond_split (Fair (suc t)) (eqb x.kind 2) _ _ (λ _. (omega arith, b))
    (λ _. cond_split (Fair (suc t)) (eqb x.kind 3) _ _ (λ _. (omega arith, d))
    (λ _. cond_split (Fair (suc t)) (eqb x.kind 11) _ _ (λ _. (d, a)) (λ _. (a, b, d)))))

pub fair : (f : Bytes) → AllBytes f → (p : ℕ) → Fair p (head_of f p)
unfolding head_of record_of
fair f g zero = omega arith
fair f g (suc t) = fair_from t (record_of f t) (g (record_start t + 1)) (g (record_start t + 2)) (number_lt 4 f (record_start t + 4) g)

-- the same of a head that is known
pub fair_at : (p : ℕ) (g h : Head) → Fair p g → g ≡ h → Fair p h
fair_at p g h w e = subst (Fair p) e w

-- its regions are as wide as they are written
abbrev pub Narrow : Head → Type 0
Narrow (Int w) = Unit {0}
Narrow (Ptr a r) = r < 256
Narrow (Arr n a) = Unit {0}
Narrow (Struct N n d) = d < 4294967296
Narrow (Untyped n r) = r < 256

pub fair_narrow : (p : ℕ) (h : Head) → Fair p h → Narrow h
fair_narrow p (Int w) e = tt
fair_narrow p (Ptr a r) e = e.1
fair_narrow p (Arr n a) e = tt
fair_narrow p (Struct N n d) e = e.2
fair_narrow p (Untyped n r) e = e.1

pub narrow_at : (g h : Head) → Narrow g → g ≡ h → Narrow h
narrow_at g h w e = subst Narrow e w
