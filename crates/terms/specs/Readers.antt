-- What a term is, by its head: the small readers that rules 5, 6 and 7 use; and the type that an entry of record 8 says. Assumes nothing.
use Rattle.std.specs.Prelude.{◌≡◌, Bool, ◌&&◌, ◌||◌, ℕ, suc, ◌-◌, ◌<◌, ◌≤◌, leb, length}
use Rattle.std.proofs.Math.Path.{refl, sym, ap}
use Rattle.std.proofs.Common.{◌∙◌, arith}
use Rattle.std.proofs.Math.Bool.{true, false, cond}
use Rattle.std.proofs.Math.Dec.{eqb}
use borrow.Author.Tests.{eq-eqb, eqb-true, le-leb, leb-true}
use Rattle.words.specs.Bytes.{Bytes, AllBytes}
use Rattle.words.specs.ByteLaws.{length_list_of}
use Rattle.words.specs.Choose.{cond_ne, bool_same}
use Rattle.words.specs.Decide.{does, does_true, true_does}
use Rattle.rules.specs.Types.{variable, region, Tree, int, ptr, arr, struct, raw_ptr, bytes, form, number_of, inner, region_of, args, dec_tree, dec_uses, dec_primitive}
use Rattle.rules.specs.File.{record_of, kind_integer, kind_pointer, kind_array, kind_untyped, untyped_mark}
use Rattle.rules.specs.Decode.{trees_of, region_type_of, module_of}
use Rattle.rules.specs.declared.Record.{Record}
use Rattle.terms.specs.declared.Head.{Head}
use Rattle.terms.specs.declared.Head.TheVariants.{Int, Ptr, Arr, Struct, Untyped}
use Rattle.terms.specs.Heads.{digit, args_of, place_of, tree_at, head_from, head_of, grow, form_no, main_no, inner_no, region_no, args_no}
use Rattle.terms.specs.HeadLaws.{trees_at, tree_step, place_in_law, place_out, place_le, Fair, fair}
use Rattle.terms.specs.Extents.{Terms}
use Rattle.terms.specs.ExtentLaws.{module_term}
use Rattle.terms.specs.Compare.{tree_other, tree_same, inner_le}
use Rattle.terms.specs.Bounds.{bound, bound_reads}

-- the head h is that of tree T, and the place inside is one of the file's n terms, or none
pub record Reads (f : Bytes) (n : ℕ) (T : Tree variable) (h : Head) : Type 0 where
  pub tree : T ≡ grow (tree_at f) h
  pub low : inner_no h ≤ n
  pub fair : Fair n h

-- term r is what is inside T, where T is a pointer or an array
pub record Inner (f : Bytes) (T : Tree variable) (r : ℕ) : Type 0 where
  pub pointer : form T ≡ 2 → (module_of f).term r ≡ inner T
  pub array : form T ≡ 3 → (module_of f).term r ≡ inner T

fair_up : (p n : ℕ) (h : Head) → p ≤ n → Fair p h → Fair n h
fair_up p n (Int w) l e = e
fair_up p n (Ptr a r) l e = let x = e.0 in (omega arith, e.1)
fair_up p n (Arr c a) l e = let x = e.0 in (omega arith, e.1)
fair_up p n (Struct N c d) l e = e
fair_up p n (Untyped c r) l e = e

pub head_reads : (f : Bytes) (n : ℕ) → Terms f n → (t p : ℕ) → p ≡ place_of n t → (h : Head) → h ≡ head_of f p → Fair p h → Reads f n ((module_of f).term t) h
head_reads f n w t p q h e g =
    let l = place_le n t in
    record {
      tree = module_term f n w t ∙ ap (tree_at f) (sym q) ∙ tree_step f p ∙ ap (grow (tree_at f)) (sym e);
      low = omega (arith, inner_le p h g);
      fair = fair_up p n h (omega arith) g;
    }

pub form_grow : (f : Bytes) (h : Head) → form_no h ≡ form (grow (tree_at f) h)
unfolding grow
form_grow f (Int w) = refl
form_grow f (Ptr a r) = refl
form_grow f (Arr c a) = refl
form_grow f (Struct N c d) = refl
form_grow f (Untyped c r) = refl

module _ (f : Bytes) (n : ℕ) (T : Tree variable) (h : Head) (e : Reads f n T h) where
  pub form_reads : form_no h ≡ form T
  form_reads = form_grow f h ∙ ap form (sym e.tree)

  number_grow : (h : Head) → (form_no h ≡ 2 → ⊥) → main_no h ≡ number_of (grow (tree_at f) h)
  unfolding grow
  number_grow (Int w) l = refl
  number_grow (Ptr a r) l = absurd (l refl)
  number_grow (Arr c a) l = refl
  number_grow (Struct N c d) l = refl
  number_grow (Untyped c r) l = refl

  pub number_reads : (form_no h ≡ 2 → ⊥) → main_no h ≡ number_of T
  number_reads l = number_grow h l ∙ ap number_of (sym e.tree)

  pointer_grow : (h : Head) → form_no h ≡ 2 → region_no h ≡ number_of (grow (tree_at f) h)
  unfolding grow
  pointer_grow (Int w) l = absurd (omega arith)
  pointer_grow (Ptr a r) l = refl
  pointer_grow (Arr c a) l = absurd (omega arith)
  pointer_grow (Struct N c d) l = absurd (omega arith)
  pointer_grow (Untyped c r) l = absurd (omega arith)

  pub pointer_reads : form_no h ≡ 2 → region_no h ≡ number_of T
  pointer_reads l = pointer_grow h l ∙ ap number_of (sym e.tree)

  region_grow : (h : Head) → region_no h ≡ (region_of (grow (tree_at f) h)).number
  unfolding grow
  region_grow (Int w) = refl
  region_grow (Ptr a r) = refl
  region_grow (Arr c a) = refl
  region_grow (Struct N c d) = refl
  region_grow (Untyped c r) = refl

  pub region_reads : region_no h ≡ (region_of T).number
  region_reads = region_grow h ∙ ap (λ (U : Tree variable). (region_of U).number) (sym e.tree)

  region_fair : (h : Head) → Fair n h → region_no h < 256
  region_fair (Int w) g = omega arith
  region_fair (Ptr a r) g = g.1
  region_fair (Arr c a) g = omega arith
  region_fair (Struct N c d) g = omega arith
  region_fair (Untyped c r) g = g.1

  pub region_byte : region_no h < 256
  region_byte = region_fair h e.fair

  args_grow : (h : Head) → args_no h ≡ length (args (grow (tree_at f) h))
  unfolding grow args_of
  args_grow (Int w) = refl
  args_grow (Ptr a r) = refl
  args_grow (Arr c a) = refl
  args_grow (Struct N c d) = sym (length_list_of (λ j. region (digit d j)) c)
  args_grow (Untyped c r) = refl

  pub args_reads : args_no h ≡ length (args T)
  args_reads = args_grow h ∙ ap (λ (U : Tree variable). length (args U)) (sym e.tree)

  integer_grow : (w : ℕ) (h : Head) → eqb (form_no h) 1 && eqb (main_no h) w ≡ does (dec_tree (grow (tree_at f) h) (int w))
  unfolding grow
  integer_grow w (Int v) = sym (tree_same (int v) (int w) (eqb v w) (λ e. eq-eqb v w (ap number_of e)) (λ h. ap int (eqb-true v w h)))
  integer_grow w (Ptr a r) = sym (tree_other (ptr (tree_at f a) (region r)) (int w) (λ e. omega arith))
  integer_grow w (Arr c a) = sym (tree_other (arr c (tree_at f a)) (int w) (λ e. omega arith))
  integer_grow w (Struct N c d) = sym (tree_other (struct N (args_of d c)) (int w) (λ e. omega arith))
  integer_grow w (Untyped c r) = sym (tree_other (raw_ptr c (region r)) (int w) (λ e. omega arith))

  pub integer_reads : (w : ℕ) → eqb (form_no h) 1 && eqb (main_no h) w ≡ does (dec_tree T (int w))
  integer_reads w = integer_grow w h ∙ ap (λ (U : Tree variable). does (dec_tree U (int w))) (sym e.tree)

  inside_grow : (h : Head) → (form (grow (tree_at f) h) ≡ 2 → tree_at f (inner_no h) ≡ inner (grow (tree_at f) h)) × (form (grow (tree_at f) h) ≡ 3 → tree_at f (inner_no h) ≡ inner (grow (tree_at f) h))
  unfolding grow
  inside_grow (Int w) = (λ l. absurd (omega arith), λ l. absurd (omega arith))
  inside_grow (Ptr a r) = (λ l. refl, λ l. refl)
  inside_grow (Arr c a) = (λ l. refl, λ l. refl)
  inside_grow (Struct N c d) = (λ l. absurd (omega arith), λ l. absurd (omega arith))
  inside_grow (Untyped c r) = (λ l. absurd (omega arith), λ l. absurd (omega arith))

  pub inner_reads : Terms f n → (r : ℕ) → place_of n r ≡ inner_no h → Inner f T r
  inner_reads w r q =
      let z : (module_of f).term r ≡ tree_at f (inner_no h) = module_term f n w r ∙ ap (tree_at f) q in
      record {
        pointer = λ l. z ∙ (inside_grow h).0 (ap form (sym e.tree) ∙ l) ∙ ap inner (sym e.tree);
        array = λ l. z ∙ (inside_grow h).1 (ap form (sym e.tree) ∙ l) ∙ ap inner (sym e.tree);
      }

  -- the number of a place, as the code makes it
  pub place_back : (p : ℕ) → p ≡ inner_no h → 0 < p → place_of n (p - 1) ≡ inner_no h
  place_back p q l = let z = e.low in place_in_law n (p - 1) (omega arith) ∙ (let s : suc (p - 1) ≡ p = omega arith in s) ∙ q

  pub place_nothing : (p : ℕ) → p ≡ inner_no h → p ≤ 0 → place_of n n ≡ inner_no h
  place_nothing p q l = place_out n n (omega arith) ∙ (let s : 0 ≡ p = omega arith in s) ∙ q

-- integers and pointers; only what is no term has the form 0
pub primitive_reads : (T : Tree variable) → (form T ≡ 0 → ⊥) → leb (form T) 2 || eqb (form T) 11 ≡ does (dec_primitive T)
unfolding dec_primitive
primitive_reads (int w) h = refl
primitive_reads (ptr T r) h = refl
primitive_reads (arr n T) h = refl
primitive_reads (struct N rs) h = refl
primitive_reads (raw_ptr n r) h = refl
primitive_reads bytes h = absurd (h refl)

pub uses_reads : (n : ℕ) (T : Tree variable) → leb (bound T) n ≡ does (dec_uses n T)
uses_reads n T = bool_same (leb (bound T) n) (does (dec_uses n T))
    (λ h. true_does (dec_uses n T) ((bound_reads n T).0 (leb-true (bound T) n h)))
    (λ h. le-leb (bound T) n ((bound_reads n T).1 (does_true (dec_uses n T) h)))

-- ---- a term's form by the kind of its record

abbrev pub form_by : ℕ → ℕ
form_by k = cond (eqb k kind_integer) 1 (cond (eqb k kind_pointer) 2 (cond (eqb k kind_array) 3 (cond (eqb k kind_untyped) 11 4)))

module _ (t : ℕ) (x : Record) where
  -- the head, by the tests in order
  abbrev head_by : (p q r u : Bool) → Head
  head_by p q r u = cond p (Int x.a) (cond q (Ptr (place_of t x.a) x.b) (cond r (Arr x.d (place_of t x.a)) (cond u (Untyped x.d x.a) (Struct x.a x.b x.d))))

  form_from : form_no (head_from t x) ≡ form_by x.kind
  unfolding head_from
  form_from = by (eqb x.kind kind_integer) (eqb x.kind kind_pointer) (eqb x.kind kind_array) (eqb x.kind kind_untyped)
    where
      by : (p q r u : Bool) → form_no (head_by p q r u) ≡ cond p 1 (cond q 2 (cond r 3 (cond u 11 4)))
      by true q r u = refl
      by false true r u = refl
      by false false true u = refl
      by false false false true = refl
      by false false false false = refl

  integer_from : (w : ℕ) → eqb (form_no (head_from t x)) 1 && eqb (main_no (head_from t x)) w ≡ eqb x.kind kind_integer && eqb x.a w
  unfolding head_from
  integer_from w = by (eqb x.kind kind_integer) (eqb x.kind kind_pointer) (eqb x.kind kind_array) (eqb x.kind kind_untyped)
    where
      by : (p q r u : Bool) → eqb (form_no (head_by p q r u)) 1 && eqb (main_no (head_by p q r u)) w ≡ p && eqb x.a w
      by true q r u = refl
      by false true r u = refl
      by false false true u = refl
      by false false false true = refl
      by false false false false = refl

-- every term has a form
some_form : (h : Head) → form_no h ≡ 0 → ⊥
some_form (Int w) e = omega arith
some_form (Ptr a r) e = omega arith
some_form (Arr c a) e = omega arith
some_form (Struct N c d) e = omega arith
some_form (Untyped c r) e = omega arith

pub term_form : (f : Bytes) (t : ℕ) → form ((module_of f).term t) ≡ 0 → ⊥
unfolding module_of
term_form f t z =
    let p : ℕ = place_of (module_of f).terms t in
    some_form (head_of f p) (form_grow f (head_of f p) ∙ sym (ap form (trees_at f (module_of f).terms t ∙ tree_step f p)) ∙ z)

module _ (f : Bytes) (all : AllBytes f) (n : ℕ) (e : Terms f n) (t : ℕ) where
  reads_at : Reads f n ((module_of f).term t) (head_of f (place_of n t))
  reads_at = head_reads f n e t (place_of n t) refl (head_of f (place_of n t)) refl (fair f all (place_of n t))

  module _ (h : t < n) where
    head_in : head_of f (place_of n t) ≡ head_from t (record_of f t)
    unfolding head_of
    head_in = rw (place_in_law n t h)

    pub form_in : form_by (record_of f t).kind ≡ form ((module_of f).term t)
    form_in = sym (form_from t (record_of f t)) ∙ rw (← head_in) (form_reads f n ((module_of f).term t) (head_of f (place_of n t)) reads_at)

    pub integer_in : (w : ℕ) → eqb (record_of f t).kind kind_integer && eqb (record_of f t).a w ≡ does (dec_tree ((module_of f).term t) (int w))
    integer_in w = sym (integer_from t (record_of f t) w) ∙ rw (← head_in) (integer_reads f n ((module_of f).term t) (head_of f (place_of n t)) reads_at w)

  module _ (h : n ≤ t) where
    head_out : head_of f (place_of n t) ≡ Int 1
    unfolding head_of
    head_out = rw (place_out n t h)

    pub form_out : 1 ≡ form ((module_of f).term t)
    form_out = rw head_out at (form_reads f n ((module_of f).term t) (head_of f (place_of n t)) reads_at)

    pub integer_out : (w : ℕ) → eqb 1 w ≡ does (dec_tree ((module_of f).term t) (int w))
    integer_out w = rw head_out at (integer_reads f n ((module_of f).term t) (head_of f (place_of n t)) reads_at w)

-- ---- the types of regions

-- the type that an entry of record 8 says: a term, or of 255 the untyped region's
abbrev pub entry_type : Bytes → ℕ → Tree variable
entry_type f v = region_type_of (trees_of f (module_of f).terms) v

module _ (f : Bytes) (v : ℕ) where
  pub entry_term : (v ≡ untyped_mark → ⊥) → entry_type f v ≡ (module_of f).term v
  unfolding region_type_of module_of
  entry_term h = cond_ne _ _ h

  pub entry_bytes : v ≡ untyped_mark → entry_type f v ≡ bytes
  unfolding region_type_of
  entry_bytes e = rw e

  -- only the untyped region's has the form 0
  pub entry_form : (v ≡ untyped_mark → ⊥) → form (entry_type f v) ≡ 0 → ⊥
  entry_form h z = term_form f v (ap form (sym (entry_term h)) ∙ z)
