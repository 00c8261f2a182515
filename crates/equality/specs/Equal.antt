-- Terms compared under substitutions: what the code compares of two heads, and that this decides whether the trees are equal. Assumes
-- nothing.
use Rattle.std.specs.Prelude.{◌≡◌, Bool, true, false, ◌&&◌, ◌||◌, not, List, map, ℕ, zero, suc, ◌+◌, ◌<◌, ltb, length, get_or, set}
use Rattle.std.proofs.Math.Path.{refl, sym, ap, ap₂}
use Rattle.std.proofs.Common.{◌∙◌, ⊎_elim, arith, eq-eqb, eqb-true, ne_eqb, ltb-true, ltb-false, get_or-set_same, get_or-set_other}
use Rattle.std.proofs.Math.Bool.{and-true, and_comm}
use Rattle.std.proofs.Math.Decide.{ℕ_discrete}
use Rattle.std.proofs.Math.Dec.{eqb}
use Rattle.std.proofs.lemmas.Bool.{eqb-false}
use Rattle.words.specs.Bytes.{Bytes, AllBytes, list_of}
use Rattle.words.specs.ByteLaws.{length_list_of, get_d_list_of, list_of_agree, map_list_from}
use Rattle.words.specs.Choose.{bool_same, both, both_of, either, neither, lt_or_le}
use Rattle.words.specs.First.{all_below}
use Rattle.words.specs.FirstLaws.{all_holds, all_from}
use Rattle.words.specs.Decide.{does, does_true, dec_list, true_does}
use Rattle.rules.specs.Types.{RegionKind, variable, Region, region, dec_region, Tree, int, ptr, arr, struct, raw_ptr, sub, form, number_of, inner, region_of, args, dec_tree, nowhere}
use Rattle.rules.specs.Decode.{module_of}
use Rattle.terms.specs.declared.Head.{Head}
use Rattle.terms.specs.declared.Head.TheVariants.{Int, Ptr, Arr, Struct, Untyped}
use Rattle.terms.specs.Heads.{digit, args_of, place_of, tree_at, head_of, grow, form_no, main_no, inner_no, region_no, args_no, word_no}
use Rattle.terms.specs.HeadLaws.{tree_step, digit_lt, Fair, fair}
use Rattle.terms.specs.Extents.{Terms}
use Rattle.terms.specs.ExtentLaws.{module_term}
use Rattle.terms.specs.Readers.{form_grow, entry_type, entry_term, entry_bytes, entry_form}
use Rattle.terms.specs.Compare.{byte_under, under, under_is, form_sub, does_region, tree_other, tree_same, inner_less, inner_le}

-- ---- what the code compares

-- the first n regions that the numbers d and e hold
unfoldable pub args_same : Bytes → ℕ → Bytes → ℕ → ℕ → Bool
args_same p d q e n = all_below n (λ j. eqb (byte_under p (digit d j)) (byte_under q (digit e j)))

-- the same form, the same number, the same region, the same arguments
unfoldable pub heads_same : Bytes → Head → Bytes → Head → Bool
heads_same p x q y =
    (eqb (form_no x) (form_no y) && eqb (main_no x) (main_no y))
    && ((not (eqb (form_no x) 2 || eqb (form_no x) 11) || eqb (byte_under p (region_no x)) (byte_under q (region_no y)))
    && (eqb (args_no x) (args_no y) && args_same p (word_no x) q (word_no y) (args_no x)))

-- as the code asks for each number
pub heads_are : (p : Bytes) (x : Head) (q : Bytes) (y : Head) {f f' m m' r r' a a' : ℕ} {s : Bool} → f ≡ form_no x → f' ≡ form_no y → m ≡ main_no x → m' ≡ main_no y
    → r ≡ byte_under p (region_no x) → r' ≡ byte_under q (region_no y) → a ≡ args_no x → a' ≡ args_no y → s ≡ args_same p (word_no x) q (word_no y) (args_no x)
    → (eqb f f' && eqb m m') && ((not (eqb f 2 || eqb f 11) || eqb r r') && (eqb a a' && s)) ≡ heads_same p x q y
unfolding heads_same
heads_are p x q y ef ef' em em' er er' ea ea' es = rw (ef, ef', em, em', er, er', ea, ea', es)

-- the trees at places i and j are equal
unfoldable pub places_same : (k : RegionKind) → Bytes → ℕ → Bytes → ℕ → Bytes → Bool
places_same k f i p j q = does (dec_tree (sub (under {k = k} p) (tree_at f i)) (sub (under q) (tree_at f j)))

-- ---- arguments

module _ {k : RegionKind} (g h : ℕ → Region k) (n m : ℕ) where
  same_length : list_of g n ≡ list_of h m → n ≡ m
  same_length e = sym (length_list_of g n) ∙ ap (λ (l : List (Region k)). length l) e ∙ length_list_of h m

  same_each : list_of g n ≡ list_of h m → (j : ℕ) → j < n → g j ≡ h j
  same_each e j l =
      sym (get_d_list_of g n j (region 0) l) ∙ ap (λ (l : List (Region k)). get_or l j (region 0)) e
      ∙ get_d_list_of h m j (region 0) (let w = same_length e in omega arith)

  lists_same : does (dec_list dec_region (list_of g n) (list_of h m)) ≡ eqb n m && all_below n (λ j. eqb (g j).number (h j).number)
  lists_same = bool_same (does (dec_list dec_region (list_of g n) (list_of h m))) (eqb n m && all_below n t) to from
    where
      t : ℕ → Bool
      t j = eqb (g j).number (h j).number

      to : does (dec_list dec_region (list_of g n) (list_of h m)) ≡ true → eqb n m && all_below n t ≡ true
      to w =
          let e = does_true (dec_list dec_region (list_of g n) (list_of h m)) w in
          both_of (eq-eqb n m (same_length e)) (all_from n t (λ j l. eq-eqb (g j).number (h j).number (ap (λ (r : Region k). r.number) (same_each e j l))))

      from : eqb n m && all_below n t ≡ true → does (dec_list dec_region (list_of g n) (list_of h m)) ≡ true
      from w =
          let b = both (eqb n m) (all_below n t) w in
          true_does (dec_list dec_region (list_of g n) (list_of h m))
          (list_of_agree g h n (λ j l. ap region (eqb-true (g j).number (h j).number (all_holds n t b.1 j l))) ∙ ap (λ (c : ℕ). list_of h c) (eqb-true n m b.0))

args_same_law : (k : RegionKind) (p q : Bytes) (d n e m : ℕ)
    → does (dec_list (dec_region {k = k}) (map (under p) (args_of d n)) (map (under q) (args_of e m))) ≡ eqb n m && args_same p d q e n
unfolding args_of args_same
args_same_law k p q d n e m =
    ap₂ (λ (l l' : List (Region k)). does (dec_list dec_region l l')) (arguments p d n) (arguments q e m)
    ∙ lists_same (λ j. region (byte_under p (digit d j))) (λ j. region (byte_under q (digit e j))) n m
  where
    arguments : (p : Bytes) (d n : ℕ) → map (under {k = k} p) (list_of (λ j. region (digit d j)) n) ≡ list_of (λ j. region (byte_under p (digit d j))) n
    arguments p d n =
        map_list_from (under p) (λ j. region (digit d j)) 0 n
        ∙ list_of_agree (λ j. under p (region (digit d j))) (λ j. region (byte_under p (digit d j))) n (λ j l. under_is p (region (digit d j)))

-- ---- equal trees of one form

int_same : (k : RegionKind) (v w : ℕ) → does (dec_tree {k = k} (int v) (int w)) ≡ eqb v w
int_same k v w = tree_same (int v) (int w) (eqb v w) (λ e. eq-eqb v w (ap number_of e)) (λ h. ap int (eqb-true v w h))

module _ {k : RegionKind} where
  ptr_same : (T U : Tree k) (r s : Region k) → does (dec_tree (ptr T r) (ptr U s)) ≡ does (dec_tree T U) && does (dec_region r s)
  ptr_same T U r s = tree_same (ptr T r) (ptr U s) (does (dec_tree T U) && does (dec_region r s))
      (λ e. both_of (true_does (dec_tree T U) (ap inner e)) (true_does (dec_region r s) (ap region_of e)))
      (λ h. let b = both (does (dec_tree T U)) (does (dec_region r s)) h in ap₂ {C = Tree k} ptr (does_true (dec_tree T U) b.0) (does_true (dec_region r s) b.1))

  arr_same : (n m : ℕ) (T U : Tree k) → does (dec_tree (arr n T) (arr m U)) ≡ eqb n m && does (dec_tree T U)
  arr_same n m T U = tree_same (arr n T) (arr m U) (eqb n m && does (dec_tree T U))
      (λ e. both_of (eq-eqb n m (ap number_of e)) (true_does (dec_tree T U) (ap inner e)))
      (λ h. let b = both (eqb n m) (does (dec_tree T U)) h in ap₂ {C = Tree k} arr (eqb-true n m b.0) (does_true (dec_tree T U) b.1))

  struct_same : (N M : ℕ) (rs ss : List (Region k)) → does (dec_tree (struct N rs) (struct M ss)) ≡ eqb N M && does (dec_list dec_region rs ss)
  struct_same N M rs ss = tree_same (struct N rs) (struct M ss) (eqb N M && does (dec_list dec_region rs ss))
      (λ e. both_of (eq-eqb N M (ap number_of e)) (true_does (dec_list dec_region rs ss) (ap args e)))
      (λ h. let b = both (eqb N M) (does (dec_list dec_region rs ss)) h in ap₂ {C = Tree k} struct (eqb-true N M b.0) (does_true (dec_list dec_region rs ss) b.1))

  raw_same : (n m : ℕ) (r s : Region k) → does (dec_tree (raw_ptr n r) (raw_ptr m s)) ≡ eqb n m && does (dec_region r s)
  raw_same n m r s = tree_same (raw_ptr n r) (raw_ptr m s) (eqb n m && does (dec_region r s))
      (λ e. both_of (eq-eqb n m (ap number_of e)) (true_does (dec_region r s) (ap region_of e)))
      (λ h. let b = both (eqb n m) (does (dec_region r s)) h in ap₂ {C = Tree k} raw_ptr (eqb-true n m b.0) (does_true (dec_region r s) b.1))

-- ---- one step along two terms

regions_same : (k : RegionKind) (p q : Bytes) (r s : ℕ) → does (dec_region (under {k = k} p (region r)) (under q (region s))) ≡ eqb (byte_under p r) (byte_under q s)
regions_same k p q r s =
    does_region (under {k = k} p (region r)) (under q (region s))
    ∙ ap₂ (λ (a b : Region k). eqb a.number b.number) (under_is p (region r)) (under_is q (region s))

pub places_none : (k : RegionKind) (f p q : Bytes) → places_same k f 0 p 0 q ≡ true
unfolding places_same tree_at sub
places_none k f p q = true_does (dec_tree (int 1) (int 1)) refl

module _ (k : RegionKind) (f p q : Bytes) where
  abbrev grown : Head → Head → Bool
  grown x y = does (dec_tree (sub (under {k = k} p) (grow (tree_at f) x)) (sub (under q) (grow (tree_at f) y)))

  abbrev inside : Head → Head → Bool
  inside x y = places_same k f (inner_no x) p (inner_no y) q

  abbrev dec_inside : (a b : ℕ) → Dec (sub (under {k = k} p) (tree_at f a) ≡ sub (under q) (tree_at f b))
  dec_inside a b = dec_tree (sub (under p) (tree_at f a)) (sub (under q) (tree_at f b))

  -- heads of other forms: the trees differ, and so the code says
  form_under : (to : Bytes) (x : Head) → form (sub (under {k = k} to) (grow (tree_at f) x)) ≡ form_no x
  form_under to x = form_sub (under to) (grow (tree_at f) x) ∙ sym (form_grow f x)

  other : (x y : Head) → (form_no x ≡ form_no y → ⊥) → grown x y ≡ heads_same p x q y && inside x y
  unfolding heads_same
  other x y h =
      tree_other (sub (under p) (grow (tree_at f) x)) (sub (under q) (grow (tree_at f) y)) (λ e. h (sym (form_under p x) ∙ e ∙ form_under q y))
      ∙ sym (rw (ne_eqb (form_no x) (form_no y) h))

  heads_step : (x y : Head) → grown x y ≡ heads_same p x q y && inside x y
  unfolding grow sub heads_same args_same all_below places_same
  heads_step (Int v) (Int w) =
      int_same k v w ∙ sym (rw (places_none k f p q, and-true (eqb v w)) (and-true (eqb v w)))
  heads_step (Int v) (Ptr b s) = other (Int v) (Ptr b s) (λ z. omega arith)
  heads_step (Int v) (Arr m b) = other (Int v) (Arr m b) (λ z. omega arith)
  heads_step (Int v) (Struct M m e) = other (Int v) (Struct M m e) (λ z. omega arith)
  heads_step (Int v) (Untyped m s) = other (Int v) (Untyped m s) (λ z. omega arith)
  heads_step (Ptr a r) (Int w) = other (Ptr a r) (Int w) (λ z. omega arith)
  heads_step (Ptr a r) (Ptr b s) =
      ptr_same (sub (under p) (tree_at f a)) (sub (under q) (tree_at f b)) (under p (region r)) (under q (region s))
      ∙ ap (λ (t : Bool). does (dec_inside a b) && t) (regions_same k p q r s)
      ∙ and_comm (does (dec_inside a b)) (eqb (byte_under p r) (byte_under q s))
      ∙ ap (λ (t : Bool). t && does (dec_inside a b)) (sym (and-true (eqb (byte_under p r) (byte_under q s))))
  heads_step (Ptr a r) (Arr m b) = other (Ptr a r) (Arr m b) (λ z. omega arith)
  heads_step (Ptr a r) (Struct M m e) = other (Ptr a r) (Struct M m e) (λ z. omega arith)
  heads_step (Ptr a r) (Untyped m s) = other (Ptr a r) (Untyped m s) (λ z. omega arith)
  heads_step (Arr n a) (Int w) = other (Arr n a) (Int w) (λ z. omega arith)
  heads_step (Arr n a) (Ptr b s) = other (Arr n a) (Ptr b s) (λ z. omega arith)
  heads_step (Arr n a) (Arr m b) =
      arr_same n m (sub (under p) (tree_at f a)) (sub (under q) (tree_at f b))
      ∙ ap (λ (t : Bool). t && does (dec_inside a b)) (sym (and-true (eqb n m)))
  heads_step (Arr n a) (Struct M m e) = other (Arr n a) (Struct M m e) (λ z. omega arith)
  heads_step (Arr n a) (Untyped m s) = other (Arr n a) (Untyped m s) (λ z. omega arith)
  heads_step (Struct N n d) (Int w) = other (Struct N n d) (Int w) (λ z. omega arith)
  heads_step (Struct N n d) (Ptr b s) = other (Struct N n d) (Ptr b s) (λ z. omega arith)
  heads_step (Struct N n d) (Arr m b) = other (Struct N n d) (Arr m b) (λ z. omega arith)
  heads_step (Struct N n d) (Struct M m e) =
      struct_same N M (map (under p) (args_of d n)) (map (under q) (args_of e m))
      ∙ ap (λ (t : Bool). eqb N M && t) (args_same_law k p q d n e m)
      ∙ sym (rw (places_none k f p q) (and-true (eqb N M && (eqb n m && args_same p d q e n))))
  heads_step (Struct N n d) (Untyped m s) = other (Struct N n d) (Untyped m s) (λ z. omega arith)
  heads_step (Untyped n r) (Int w) = other (Untyped n r) (Int w) (λ z. omega arith)
  heads_step (Untyped n r) (Ptr b s) = other (Untyped n r) (Ptr b s) (λ z. omega arith)
  heads_step (Untyped n r) (Arr m b) = other (Untyped n r) (Arr m b) (λ z. omega arith)
  heads_step (Untyped n r) (Struct M m e) = other (Untyped n r) (Struct M m e) (λ z. omega arith)
  heads_step (Untyped n r) (Untyped m s) =
      raw_same n m (under p (region r)) (under q (region s))
      ∙ ap (λ (t : Bool). eqb n m && t) (regions_same k p q r s)
      ∙ sym (rw (places_none k f p q, and-true (eqb (byte_under p r) (byte_under q s))) (and-true (eqb n m && eqb (byte_under p r) (byte_under q s))))

  -- the trees are equal where their heads are, and the trees inside
  pub places_step : (i j : ℕ) (x y : Head) → x ≡ head_of f i → y ≡ head_of f j → places_same k f i p j q ≡ heads_same p x q y && places_same k f (inner_no x) p (inner_no y) q
  places_step i j x y e h = at_heads ∙ heads_step x y
    where
      at_heads : places_same k f i p j q ≡ grown x y
      at_heads = unfold places_same in
          ap₂ (λ (S T : Tree variable). does (dec_tree (sub (under {k = k} p) S) (sub (under q) T)))
          (tree_step f i ∙ ap (grow (tree_at f)) (sym e)) (tree_step f j ∙ ap (grow (tree_at f)) (sym h))

  -- the code's ways: the heads differ; they are the same, and what is inside decides
  pub places_differ : (i j : ℕ) (x y : Head) → x ≡ head_of f i → y ≡ head_of f j → heads_same p x q y ≡ false → places_same k f i p j q ≡ false
  places_differ i j x y e h w = places_step i j x y e h ∙ ap (λ (t : Bool). t && places_same k f (inner_no x) p (inner_no y) q) w

  pub places_on : (i j : ℕ) (x y : Head) → x ≡ head_of f i → y ≡ head_of f j → heads_same p x q y ≡ true → places_same k f i p j q ≡ places_same k f (inner_no x) p (inner_no y) q
  places_on i j x y e h w = places_step i j x y e h ∙ ap (λ (t : Bool). t && places_same k f (inner_no x) p (inner_no y) q) w

pub walk_less : (i j : ℕ) (x y : Head) → Fair i x → Fair j y → ltb 0 i || ltb 0 j ≡ true → inner_no x + inner_no y < i + j
walk_less i j x y e h w = ⊎_elim
    (λ l. omega (arith, inner_less i x e (ltb-true 0 i l), inner_le j y h))
    (λ l. omega (arith, inner_le i x e, inner_less j y h (ltb-true 0 j l)))
    (either (ltb 0 i) (ltb 0 j) w)

pub walk_end : (k : RegionKind) (f p q : Bytes) (i j : ℕ) → ltb 0 i || ltb 0 j ≡ false → places_same k f i p j q ≡ true
walk_end k f p q i j w =
    let n = neither (ltb 0 i) (ltb 0 j) w in
    let a : i ≡ 0 = omega (arith, ltb-false 0 i n.0) in
    let b : j ≡ 0 = omega (arith, ltb-false 0 j n.1) in
    rw (a, b) (places_none k f p q)

-- by term number
pub places_terms : (k : RegionKind) (f : Bytes) (n : ℕ) → Terms f n → (a : ℕ) (p : Bytes) (b : ℕ) (q : Bytes)
    → places_same k f (place_of n a) p (place_of n b) q ≡ does (dec_tree (sub (under {k = k} p) ((module_of f).term a)) (sub (under q) ((module_of f).term b)))
unfolding places_same
places_terms k f n h a p b q =
    ap₂ (λ (S T : Tree variable). does (dec_tree (sub (under {k = k} p) S) (sub (under q) T))) (sym (module_term f n h a)) (sym (module_term f n h b))

-- ---- the identity

-- the first n bytes stand for themselves
abbrev pub IdentityTo : Bytes → ℕ → Type 0
IdentityTo p n = (v : ℕ) → v < n → byte_under p v ≡ v

pub identity_more : (p : Bytes) (n v : ℕ) → n < length p → v ≡ n → IdentityTo p n → IdentityTo (set p n v) (n + 1)
identity_more p n v l e h i m = ⊎_elim
    (λ lt. get_or-set_other p n i v nowhere (λ w. omega arith) ∙ h i lt)
    (λ le. let w : i ≡ n = omega arith in rw w (get_or-set_same p n v nowhere l ∙ e))
    (lt_or_le i n)

-- every byte stands for itself
abbrev pub Identity : Bytes → Type 0
Identity p = (v : ℕ) → v < 256 → byte_under p v ≡ v

module _ (f : Bytes) (g : AllBytes f) (p : Bytes) (id : Identity p) where
  same_args : (d n : ℕ) → d < 4294967296 → map (under p) (args_of d n) ≡ args_of d n
  unfolding args_of
  same_args d n h =
      map_list_from (under p) (λ j. region (digit d j)) 0 n
      ∙ list_of_agree (λ j. under p (region (digit d j))) (λ j. region (digit d j)) n (λ j l. under_is p (region (digit d j)) ∙ ap region (id (digit d j) (digit_lt d j h)))

  same_head : (i : ℕ) (h : Head) → Fair i h → ((a : ℕ) → a < i → sub (under p) (tree_at f a) ≡ tree_at f a) → sub (under p) (grow (tree_at f) h) ≡ grow (tree_at f) h
  unfolding sub grow
  same_head i (Int w) e below = refl
  same_head i (Ptr a r) e below = ap₂ {C = Tree variable} ptr (below a e.0) (under_is p (region r) ∙ ap region (id r e.1))
  same_head i (Arr n a) e below = ap {B = Tree variable} (arr n) (below a e.0)
  same_head i (Untyped n r) e below = ap {B = Tree variable} (raw_ptr n) (under_is p (region r) ∙ ap region (id r e.1))
  same_head i (Struct N n d) e below = ap {B = Tree variable} (struct N) (same_args d n e.2)

  same_below : (b i : ℕ) → i < b → sub (under p) (tree_at f i) ≡ tree_at f i
  same_below zero i l = absurd (omega arith)
  same_below (suc b) i l =
      ap (sub (under p)) (tree_step f i) ∙ same_head i (head_of f i) (fair f g i) (λ a h. same_below b a (omega arith)) ∙ sym (tree_step f i)

  -- a term under the identity is itself
  pub under_identity : (i : ℕ) → sub (under p) (tree_at f i) ≡ tree_at f i
  under_identity i = same_below (suc i) i (omega arith)

  pub term_identity : (n : ℕ) → Terms f n → (t : ℕ) → sub (under p) ((module_of f).term t) ≡ (module_of f).term t
  term_identity n h t = ap (sub (under p)) (module_term f n h t) ∙ under_identity (place_of n t) ∙ sym (module_term f n h t)

-- ---- the types of regions

-- of two entries, one of them untyped: their types are equal where the entries are
module _ (f : Bytes) (a b : ℕ) (q : Bytes) where
  abbrev dec_types : Dec (entry_type f a ≡ sub (under q) (entry_type f b))
  dec_types = dec_tree (entry_type f a) (sub (under q) (entry_type f b))

  both_untyped : a ≡ 255 → b ≡ 255 → entry_type f a ≡ sub (under q) (entry_type f b)
  unfolding sub
  both_untyped e z = entry_bytes f a e ∙ sym (ap (sub (under q)) (entry_bytes f b z))

  first_untyped_law : a ≡ 255 → (b ≡ 255 → ⊥) → form (entry_type f a) ≡ form (sub (under {k = variable} q) (entry_type f b)) → ⊥
  first_untyped_law e z w = entry_form f b z (sym (form_sub (under {k = variable} q) (entry_type f b)) ∙ sym w ∙ ap form (entry_bytes f a e))

  second_untyped : (a ≡ 255 → ⊥) → b ≡ 255 → form (entry_type f a) ≡ form (sub (under {k = variable} q) (entry_type f b)) → ⊥
  second_untyped z e w = entry_form f a z (w ∙ form_sub (under {k = variable} q) (entry_type f b) ∙ ap form (entry_bytes f b e))

  pub untyped_same : eqb a 255 || eqb b 255 ≡ true → eqb a b ≡ does dec_types
  untyped_same h = go (ℕ_discrete a 255) (ℕ_discrete b 255)
    where
      go : Dec (a ≡ 255) → Dec (b ≡ 255) → eqb a b ≡ does dec_types
      go (yes e) (yes z) = eq-eqb a b (e ∙ sym z) ∙ sym (true_does dec_types (both_untyped e z))
      go (yes e) (no z) = ne_eqb a b (λ w. z (sym w ∙ e)) ∙ sym (tree_other (entry_type f a) (sub (under q) (entry_type f b)) (first_untyped_law e z))
      go (no z) (yes e) = ne_eqb a b (λ w. z (w ∙ e)) ∙ sym (tree_other (entry_type f a) (sub (under q) (entry_type f b)) (second_untyped z e))
      go (no z) (no y) = absurd (⊎_elim (λ l. z (eqb-true a 255 l)) (λ l. y (eqb-true b 255 l)) (either (eqb a 255) (eqb b 255) h))

  pub typed_same : eqb a 255 || eqb b 255 ≡ false → does (dec_tree ((module_of f).term a) (sub (under q) ((module_of f).term b))) ≡ does dec_types
  typed_same h =
      let w = neither (eqb a 255) (eqb b 255) h in
      ap₂ (λ (S T : Tree variable). does (dec_tree S (sub (under q) T))) (sym (entry_term f a (eqb-false a 255 w.0))) (sym (entry_term f b (eqb-false b 255 w.1)))
