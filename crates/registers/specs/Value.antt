-- What makes a number a value of a written type with regions put for its variables, by the form of its term. Assumes nothing.
use Rattle.std.proofs.Math.Path.{◌≡◌, refl, ap}
use Rattle.std.proofs.Common.{sym, ◌∙◌}
use Rattle.std.specs.Prelude.{Bool, None, ◌≢◌, ◌⊎◌, ℕ, zero, suc, ◌^◌, ◌/◌, ◌<◌, ◌≤◌, ltb, length}
use Rattle.std.proofs.Math.Nat.{pow-le-pow_right}
use native.Mathlib.Omega.{arith}
use Rattle.words.specs.Bytes.{Bytes, AllBytes}
use Rattle.words.specs.ByteLaws.{length_list_of}
use Rattle.words.specs.Decide.{does}
use Rattle.rules.specs.Limits.{page_bytes, most_regions}
use Rattle.rules.specs.Types.{variable, live, Variable, Region, Tree, int, ptr, arr, struct, raw_ptr, bytes, form, number_of, inner, region_of, sub}
use Rattle.rules.specs.Flat.{flat, flat_with, size}
use Rattle.rules.specs.Module.{Module}
use Rattle.rules.specs.Decode.{module_of}
use Rattle.rules.specs.State.{view, page_owner, frame_map}
use Rattle.rules.specs.Heap.{close, HeapTyping, heap_typing, Stands, dec_stands, InUntyped, dec_in_untyped, Value}
use Rattle.terms.specs.declared.Head.{Head}
use Rattle.terms.specs.declared.Head.TheVariants.{Int, Ptr, Arr, Struct, Untyped}
use Rattle.terms.specs.Heads.{place_of, tree_at, head_of, grow}
use Rattle.terms.specs.HeadLaws.{tree_step, Fair, fair}
use Rattle.terms.specs.Extents.{Terms}
use Rattle.terms.specs.ExtentLaws.{module_term}
use Rattle.terms.specs.Readers.{entry_type}
use Rattle.terms.specs.Compare.{under}
use Rattle.runs.specs.Runs.{StandsIs, UntypedIs}
use Rattle.positions.specs.Maps.{Narrow, narrow_entry, map_list, under_close}
use Rattle.stack.specs.Tells.{Tells, tells_lt, does_tells}
use Rattle.objects.specs.Homes.{region_tree, HomeIs, StandsAt}
use Rattle.objects.specs.declared.Home.{Home}

-- n frames of a state
abbrev pub typing_of : Bytes → Bytes → ℕ → HeapTyping
typing_of f s n = heap_typing (module_of f) (view s) n

-- ---- by the form

module _ (m : Module) (W : HeapTyping) (σ : Variable → Region live) {x : ℕ} {b : Bool} where
  pub value_int : (T : Tree variable) → form T ≡ 1 → Tells b (x < 256 ^ number_of T) → Tells b (Value m W (sub σ T) x)
  unfolding sub
  value_int (int w) e t = t
  value_int (ptr U r) e t = absurd (let d : ◌≡◌ {A = ℕ} 2 1 = e in omega arith)
  value_int (arr n U) e t = absurd (let d : ◌≡◌ {A = ℕ} 3 1 = e in omega arith)
  value_int (struct N rs) e t = absurd (let d : ◌≡◌ {A = ℕ} 4 1 = e in omega arith)
  value_int (raw_ptr n r) e t = absurd (let d : ◌≡◌ {A = ℕ} 11 1 = e in omega arith)
  value_int bytes e t = absurd (let d : ◌≡◌ {A = ℕ} 0 1 = e in omega arith)

  pub value_ptr : (T : Tree variable) → form T ≡ 2 → Tells b ((x ≡ 0) ⊎ Stands m W (sub σ (inner T)) (σ (region_of T)).number x) → Tells b (Value m W (sub σ T) x)
  unfolding sub
  value_ptr (int w) e t = absurd (let d : ◌≡◌ {A = ℕ} 1 2 = e in omega arith)
  value_ptr (ptr U r) e t = t
  value_ptr (arr n U) e t = absurd (let d : ◌≡◌ {A = ℕ} 3 2 = e in omega arith)
  value_ptr (struct N rs) e t = absurd (let d : ◌≡◌ {A = ℕ} 4 2 = e in omega arith)
  value_ptr (raw_ptr n r) e t = absurd (let d : ◌≡◌ {A = ℕ} 11 2 = e in omega arith)
  value_ptr bytes e t = absurd (let d : ◌≡◌ {A = ℕ} 0 2 = e in omega arith)

  pub value_raw : (T : Tree variable) → form T ≡ 11 → Tells b ((x ≡ 0) ⊎ InUntyped W (number_of T) (σ (region_of T)).number x) → Tells b (Value m W (sub σ T) x)
  unfolding sub
  value_raw (int w) e t = absurd (let d : ◌≡◌ {A = ℕ} 1 11 = e in omega arith)
  value_raw (ptr U r) e t = absurd (let d : ◌≡◌ {A = ℕ} 2 11 = e in omega arith)
  value_raw (arr n U) e t = absurd (let d : ◌≡◌ {A = ℕ} 3 11 = e in omega arith)
  value_raw (struct N rs) e t = absurd (let d : ◌≡◌ {A = ℕ} 4 11 = e in omega arith)
  value_raw (raw_ptr n r) e t = t
  value_raw bytes e t = absurd (let d : ◌≡◌ {A = ℕ} 0 11 = e in omega arith)

pub value_none : (m : Module) (W : HeapTyping) (σ : Variable → Region live) (x : ℕ) (T : Tree variable) → form T ≢ 1 → form T ≢ 2 → form T ≢ 11 → ¬ Value m W (sub σ T) x
unfolding sub
value_none m W σ x (int w) a b c h = a refl
value_none m W σ x (ptr U r) a b c h = b refl
value_none m W σ x (arr n U) a b c h = h
value_none m W σ x (struct N rs) a b c h = h
value_none m W σ x (raw_ptr n r) a b c h = c refl
value_none m W σ x bytes a b c h = h

-- ---- where a run stands, from the code's answer

module _ (f s : Bytes) (n r : ℕ) where
  pub type_is : (typing_of f s n).type r ≡ region_tree f s n r
  unfolding view
  type_is = refl

  pub stands_none : {T : Tree live} {a : ℕ} → HomeIs f s n r None → ¬ Stands (module_of f) (typing_of f s n) T r a
  unfolding flat flat_with
  stands_none e st =
      let q : (typing_of f s n).type r ≡ int 0 = type_is ∙ e in
      let z : 0 < size {k = live} (module_of f) (int 0) = rw q at st.sized in
      omega arith

  -- a region that is not live is typed
  pub untyped_none : {m a : ℕ} → HomeIs f s n r None → ¬ InUntyped (typing_of f s n) m r a
  untyped_none e u = let q : ◌≡◌ {A = ℕ} 1 0 = ap (λ (T : Tree live). form T) (sym (type_is ∙ e) ∙ u.untyped) in omega arith

module _ {f s : Bytes} {n r : ℕ} {h : Home} (home : StandsAt f s n r h) where
  -- its type, closed by the map of its frame
  pub type_some : {p : Bytes} → Narrow f → p ≡ map_list s h.frame → (typing_of f s n).type r ≡ sub (under p) (entry_type f h.entry)
  type_some {p} narrow ep =
      type_is f s n r ∙ home.tree ∙ sym (under_close s h.frame (entry_type f h.entry) (narrow_entry f narrow h.entry)) ∙ ap (λ (l : Bytes). sub (under {k = live} l) (entry_type f h.entry)) (sym ep)

  pub stands_some : (k t : ℕ) {a o : ℕ} {p q : Bytes} {b : Bool} → Narrow f → p ≡ map_list s h.frame → q ≡ map_list s k → o ≡ page_owner s (a / page_bytes)
      → StandsIs f r o h.entry p a t q b → Tells b (Stands (module_of f) (typing_of f s n) (close (frame_map s k) ((module_of f).term t)) r a)
  unfolding view
  stands_some k t {a} {o} {p} {q} {b} narrow ep eq eo is =
      let tq : sub (under q) ((module_of f).term t) ≡ close (frame_map s k) ((module_of f).term t) =
      ap (λ (l : Bytes). sub (under {k = live} l) ((module_of f).term t)) eq ∙ under_close s k ((module_of f).term t) (narrow t) in
      let e : b ≡ does (dec_stands (module_of f) (typing_of f s n) (sub (under q) ((module_of f).term t)) r a) = is (typing_of f s n) (sym eo) (type_some narrow ep) in
      rw tq at (does_tells (dec_stands (module_of f) (typing_of f s n) (sub (under q) ((module_of f).term t)) r a) e)

  pub untyped_some : {m a o : ℕ} {b : Bool} → Narrow f → o ≡ page_owner s (a / page_bytes) → UntypedIs r o h.entry a m b → Tells b (InUntyped (typing_of f s n) m r a)
  unfolding view
  untyped_some {m} {a} narrow eo is =
      does_tells (dec_in_untyped (typing_of f s n) m r a) (is (typing_of f s n) f (map_list s h.frame) (sym eo) (type_some narrow refl))

-- ---- what the code reads

-- a term's number has 32 bits
number_fair : (f : Bytes) (p : ℕ) (h : Head) → Fair p h → number_of (grow (tree_at f) h) < 2 ^ 32
unfolding grow
number_fair f p (Int w) e = omega (arith, e)
number_fair f p (Ptr a r) e = omega (arith, e.1)
number_fair f p (Arr n a) e = omega (arith, e.1)
number_fair f p (Struct N n d) e = omega (arith, e.0)
number_fair f p (Untyped n r) e = omega (arith, e.0)

pub number_few : (f : Bytes) (n t : ℕ) {x : ℕ} → AllBytes f → Terms f n → x ≡ number_of ((module_of f).term t) → x < 2 ^ 32
number_few f n t all is e =
    rw (e, module_term f n is t ∙ tree_step f (place_of n t)) (number_fair f (place_of n t) (head_of f (place_of n t)) (fair f all (place_of n t)))

four : (w : ℕ) → w ≢ 0 → w ≢ 1 → w ≢ 2 → w ≢ 3 → 4 ≤ w
four zero a b c d = absurd (a refl)
four (suc zero) a b c d = absurd (b refl)
four (suc (suc zero)) a b c d = absurd (c refl)
four (suc (suc (suc zero))) a b c d = absurd (d refl)
four (suc (suc (suc (suc w)))) a b c d = omega arith

pub fits_all : (w : ℕ) {x : ℕ} → x < 2 ^ 32 → w ≢ 0 → w ≢ 1 → w ≢ 2 → w ≢ 3 → x < 256 ^ w
fits_all w {x} l a b c d =
    let z : 0 < 256 = omega arith in
    at (pow-le-pow_right z (four w a b c d))
  where
    at : 256 ^ 4 ≤ 256 ^ w → x < 256 ^ w
    at h = omega (arith, l)

pub fits_at : (v w : ℕ) {x : ℕ} → w ≡ v → Tells (ltb x (256 ^ v)) (x < 256 ^ w)
fits_at v w {x} e = rw e (tells_lt x (256 ^ v))

-- a map is short
pub map_short : (s : Bytes) (k : ℕ) {map : Bytes} → map ≡ map_list s k → length map ≤ 8
unfolding map_list
map_short s k e = let l = ap (λ (x : Bytes). length x) e ∙ length_list_of (frame_map s k) most_regions in omega arith
