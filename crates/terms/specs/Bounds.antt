-- Regions used: document 01, "A term uses each region written in it, under pointers too". One more than the highest of them.
-- Assumes nothing.
use Rattle.std.specs.Prelude.{◌≡◌, refl, ◌↔◌, List, [], ◌∷◌, ℕ, suc, max, ◌+◌, ◌-◌, ◌<◌, ◌≤◌}
use Rattle.std.proofs.Common.{sym, ap, ◌∙◌, add-one, arith}
use Rattle.words.specs.Bytes.{Bytes, list_from}
use Rattle.words.specs.Decide.{Each, none, more}
use Rattle.rules.specs.Types.{variable, Variable, region, Tree, int, ptr, arr, struct, raw_ptr, bytes, Uses, in_int, in_ptr, in_arr, in_struct, in_raw_ptr, in_bytes}
use Rattle.terms.specs.declared.Head.{Head}
use Rattle.terms.specs.declared.Head.TheVariants.{Int, Ptr, Arr, Struct, Untyped}
use Rattle.terms.specs.Heads.{digit, args_of, tree_at, head_of, grow, inner_no}
use Rattle.terms.specs.HeadLaws.{tree_step}

unfoldable pub bound_of : List Variable → ℕ
bound_of [] = 0
bound_of (r ∷ rs) = max (suc r.number) (bound_of rs)

-- 0 where no region is used
unfoldable pub bound : Tree variable → ℕ
bound (int w) = 0
bound (ptr T r) = max (suc r.number) (bound T)
bound (arr n T) = bound T
bound (struct N rs) = bound_of rs
bound (raw_ptr n r) = suc r.number
bound bytes = 0

-- ---- a bound of n is what `Uses n` says

each_bound : (n : ℕ) (rs : List Variable) → bound_of rs ≤ n → Each (λ r. r.number < n) rs
unfolding bound_of
each_bound n [] h = none
each_bound n (r ∷ rs) h = more {x = r} (omega arith) (each_bound n rs (omega arith))

bound_each : (n : ℕ) {rs : List Variable} → Each (λ r. r.number < n) rs → bound_of rs ≤ n
unfolding bound_of
bound_each n none = omega arith
bound_each n (more {x = r} {xs = rs} h u) = let l = bound_each n u in omega arith

uses_bound : (n : ℕ) (T : Tree variable) → bound T ≤ n → Uses n T
unfolding bound
uses_bound n (int w) h = in_int
uses_bound n (ptr T r) h = in_ptr {r = r} (omega arith) (uses_bound n T (omega arith))
uses_bound n (arr m T) h = in_arr (uses_bound n T h)
uses_bound n (struct N rs) h = in_struct (each_bound n rs h)
uses_bound n (raw_ptr m r) h = in_raw_ptr {r = r} (omega arith)
uses_bound n bytes h = in_bytes

bound_uses : (n : ℕ) {T : Tree variable} → Uses n T → bound T ≤ n
unfolding bound
bound_uses n in_int = omega arith
bound_uses n (in_ptr {T = T} {r = r} h u) = let l = bound_uses n u in omega arith
bound_uses n (in_arr u) = bound_uses n u
bound_uses n (in_struct u) = bound_each n u
bound_uses n (in_raw_ptr {r = r} h) = omega arith
bound_uses n in_bytes = omega arith

pub bound_reads : (n : ℕ) (T : Tree variable) → (bound T ≤ n) ↔ Uses n T
bound_reads n T = (uses_bound n T, λ u. bound_uses n u)

-- ---- as the code makes it

-- the regions in a head
abbrev pub head_bound : Head → ℕ
head_bound (Int w) = 0
head_bound (Ptr a r) = suc r
head_bound (Arr n a) = 0
head_bound (Struct N n d) = bound_of (args_of d n)
head_bound (Untyped n r) = suc r

grow_bound : (f : Bytes) (h : Head) → bound (grow (tree_at f) h) ≡ max (head_bound h) (bound (tree_at f (inner_no h)))
unfolding grow bound tree_at
grow_bound f (Int w) = omega arith
grow_bound f (Ptr a r) = refl
grow_bound f (Arr n a) = omega arith
grow_bound f (Struct N n d) = omega arith
grow_bound f (Untyped n r) = omega arith

pub bound_step : (f : Bytes) (i : ℕ) (x : Head) → x ≡ head_of f i → bound (tree_at f i) ≡ max (head_bound x) (bound (tree_at f (inner_no x)))
bound_step f i x e = ap bound (tree_step f i ∙ ap (grow (tree_at f)) (sym e)) ∙ grow_bound f x

pub bound_none : (f : Bytes) (i : ℕ) → i ≡ 0 → bound (tree_at f i) ≡ 0
unfolding bound tree_at
bound_none f i e = rw e

-- the arguments from i on
unfoldable pub args_bound : ℕ → ℕ → ℕ → ℕ
args_bound d i n = bound_of (list_from (λ j. region (digit d j)) i (n - i))

pub args_all : (d n : ℕ) → args_bound d 0 n ≡ bound_of (args_of d n)
unfolding args_bound args_of
args_all d n = let e : n - 0 ≡ n = omega arith in ap (λ (c : ℕ). bound_of (list_from (λ j. region (digit d j)) 0 c)) e

pub args_more : (d i n : ℕ) → i < n → args_bound d i n ≡ max (digit d i + 1) (args_bound d (i + 1) n)
unfolding args_bound bound_of list_from
args_more d i n h =
    let e : n - i ≡ suc (n - (i + 1)) = omega arith in
    ap (λ (c : ℕ). bound_of (list_from (λ j. region (digit d j)) i c)) e ∙ rw (add-one i, add-one (digit d i)) refl

pub args_done : (d i n : ℕ) → n ≤ i → args_bound d i n ≡ 0
unfolding args_bound bound_of list_from
args_done d i n h = let e : n - i ≡ 0 = omega arith in ap (λ (c : ℕ). bound_of (list_from (λ j. region (digit d j)) i c)) e
