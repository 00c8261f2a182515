-- A primitive in the pages: the number that its bytes hold, as a value of a term under regions given as bytes. Assumes nothing.
use Rattle.std.proofs.Math.Path.{◌≡◌, refl}
use Rattle.std.proofs.Common.{sym, ap, subst, ◌∙◌, inl, inr, ⊎_elim, pow-suc, arith}
use Rattle.std.specs.Prelude.{List, Option, None, Some, Bool, true, false, ◌≢◌, ◌⊎◌, ℕ, zero, suc, ◌+◌, ◌*◌, ◌^◌, ◌/◌, ◌<◌}
use Rattle.words.specs.Bytes.{Bytes, AllBytes}
use Rattle.rules.specs.Limits.{page_bytes}
use Rattle.rules.specs.Types.{variable, live, Variable, Region, Tree, int, ptr, arr, struct, raw_ptr, bytes, form, number_of, inner, region_of, width, sub}
use Rattle.rules.specs.Decode.{module_of}
use Rattle.rules.specs.State.{view, page_owner, memory_byte, memory_number}
use Rattle.rules.specs.Heap.{Stands, dec_stands, InUntyped, Value}
use Rattle.state.specs.Reads.{memory_lt}
use Rattle.terms.specs.Compare.{byte_under, under, under_is}
use Rattle.equality.specs.Equal.{places_same}
use Rattle.terms.specs.Heads.{place_of}
use Rattle.terms.specs.Extents.{Terms}
use Rattle.runs.specs.Runs.{StandsIs, UntypedIs}
use Rattle.stack.specs.Tells.{Tells, tells_map, tells_yes, tells_no, does_tells}
use Rattle.objects.specs.Homes.{HomeIs, StandsAt}
use Rattle.objects.specs.declared.Home.{Home}
use Rattle.positions.specs.Maps.{Narrow, map_list}
use Rattle.registers.specs.Value.{typing_of, value_int, value_ptr, value_raw, type_some, stands_none, untyped_none, untyped_some}
use Rattle.memo.specs.Memo.{SizeIs, Remembers, Forgotten, remembers_nothing, same_tree}
use Rattle.values.specs.declared.memory.Target.{Target}
use Rattle.values.specs.declared.memory.Target.TheVariants.{Nowhere, Untyped, Run}
use Rattle.values.specs.declared.memory.Aim.{Aim}

-- ---- numbers in the pages

-- w bytes hold a number below 256 to the w
pub memory_fits : (s : Bytes) → AllBytes s → (x w : ℕ) → memory_number (view s).memory x w < 256 ^ w
unfolding memory_number
memory_fits s all x zero = omega arith
memory_fits s all x (suc w) =
    let h = memory_fits s all (suc x) w in
    let p = pow-suc 256 w in
    let b = memory_lt s all x in
    omega arith

pub word_is : (s : Bytes) (x : ℕ) {a b c d : ℕ} → a ≡ memory_byte s x → b ≡ memory_byte s (x + 1) → c ≡ memory_byte s (x + 2) → d ≡ memory_byte s (x + 3)
    → a + b * 256 + c * 65536 + d * 16777216 ≡ memory_number (view s).memory x 4
unfolding memory_number view
word_is s x {a} {b} {c} {d} ea eb ec ed =
    let q : x + 1 ≡ suc x = omega arith in
    let r : x + 2 ≡ suc (suc x) = omega arith in
    let t : x + 3 ≡ suc (suc (suc x)) = omega arith in
    let fb : b ≡ memory_byte s (suc x) = rw q at eb in
    let fc : c ≡ memory_byte s (suc (suc x)) = rw r at ec in
    let fd : d ≡ memory_byte s (suc (suc (suc x))) = rw t at ed in
    omega arith

-- ---- a primitive at address x: term t under the regions `to`, of n frames

pub record PrimitiveAt (f s : Bytes) (n : ℕ) (to : Bytes) (t x : ℕ) : Type 0 where
  pub is : Value (module_of f) (typing_of f s n) (sub (under to) ((module_of f).term t)) (memory_number (view s).memory x (width (sub (under {k = live} to) ((module_of f).term t))))

-- how many bytes hold it
module _ (σ : Variable → Region live) where
  width_integer : (T : Tree variable) → form T ≡ 1 → width (sub σ T) ≡ number_of T
  unfolding sub
  width_integer (int w) e = refl
  width_integer (ptr U r) e = absurd (let d : ◌≡◌ {A = ℕ} 2 1 = e in omega arith)
  width_integer (arr n U) e = absurd (let d : ◌≡◌ {A = ℕ} 3 1 = e in omega arith)
  width_integer (struct N rs) e = absurd (let d : ◌≡◌ {A = ℕ} 4 1 = e in omega arith)
  width_integer (raw_ptr n r) e = absurd (let d : ◌≡◌ {A = ℕ} 11 1 = e in omega arith)
  width_integer bytes e = absurd (let d : ◌≡◌ {A = ℕ} 0 1 = e in omega arith)

  width_pointer : (T : Tree variable) → (form T ≡ 2) ⊎ (form T ≡ 11) → width (sub σ T) ≡ 4
  unfolding sub
  width_pointer (int w) e = absurd (⊎_elim (λ (d : ◌≡◌ {A = ℕ} 1 2). omega arith) (λ (d : ◌≡◌ {A = ℕ} 1 11). omega arith) e)
  width_pointer (ptr U r) e = refl
  width_pointer (arr n U) e = absurd (⊎_elim (λ (d : ◌≡◌ {A = ℕ} 3 2). omega arith) (λ (d : ◌≡◌ {A = ℕ} 3 11). omega arith) e)
  width_pointer (struct N rs) e = absurd (⊎_elim (λ (d : ◌≡◌ {A = ℕ} 4 2). omega arith) (λ (d : ◌≡◌ {A = ℕ} 4 11). omega arith) e)
  width_pointer (raw_ptr n r) e = refl
  width_pointer bytes e = absurd (⊎_elim (λ (d : ◌≡◌ {A = ℕ} 0 2). omega arith) (λ (d : ◌≡◌ {A = ℕ} 0 11). omega arith) e)

pub integer_at : {f s : Bytes} {n : ℕ} {to : Bytes} {t x : ℕ} → AllBytes s → form ((module_of f).term t) ≡ 1 → PrimitiveAt f s n to t x
integer_at {f} {s} {n} {to} {t} {x} all e =
    let T : Tree variable = (module_of f).term t in
    record { is = rw (width_integer (under to) T e) ((value_int (module_of f) (typing_of f s n) (under to) T e (tells_yes (memory_fits s all x (number_of T)))).holds refl) }

-- ---- where pointers of term t under `to` lead: found once for all places of a region's pages

-- term t is one of pointers, typed or untyped
abbrev pub Points : Bytes → ℕ → Type 0
Points f t = (form ((module_of f).term t) ≡ 2) ⊎ (form ((module_of f).term t) ≡ 11)

-- their region
abbrev pub region_under : Bytes → Bytes → ℕ → ℕ
region_under f to t = byte_under to (region_of ((module_of f).term t)).number

-- it is not live
pub record ToNone (f s : Bytes) (n : ℕ) (to : Bytes) (t : ℕ) : Type 0 where
  pub points : Points f t
  pub dead : HomeIs f s n (region_under f to t) None

-- untyped pointers: to `many` bytes
pub record ToBytes (f s : Bytes) (n : ℕ) (to : Bytes) (t region : ℕ) (h : Home) (many : ℕ) : Type 0 where
  pub raw : form ((module_of f).term t) ≡ 11
  pub number : many ≡ number_of ((module_of f).term t)
  pub under : region ≡ region_under f to t
  pub home : StandsAt f s n region h

-- typed ones: to a run of term `run`
pub record ToRun (f s : Bytes) (n : ℕ) (to : Bytes) (t region : ℕ) (h : Home) (map : Bytes) (z run : ℕ) : Type 0 where
  pub typed : form ((module_of f).term t) ≡ 2
  pub inside : (module_of f).term run ≡ inner ((module_of f).term t)
  pub under : region ≡ region_under f to t
  pub home : StandsAt f s n region h
  pub map_is : map ≡ map_list s h.frame
  pub size : SizeIs f h.entry z

abbrev pub TargetIs : Bytes → Bytes → ℕ → Bytes → ℕ → Target → Type 0
TargetIs f s n to t Nowhere = ToNone f s n to t
TargetIs f s n to t (Untyped region h many) = ToBytes f s n to t region h many
TargetIs f s n to t (Run region h map z run) = ToRun f s n to t region h map z run

-- ---- an aim, and what is remembered of its runs

abbrev pub Remembered : Bytes → Bytes → Target → List (Option Bool) → Type 0
Remembered f to Nowhere m = Unit {0}
Remembered f to (Untyped region h many) m = Unit {0}
Remembered f to (Run region h map z run) m = Remembers f h.entry map run to m

-- a is an aim of pointers, and m is what is remembered of it
pub record AimHolds (f s : Bytes) (n : ℕ) (a : Aim) (m : List (Option Bool)) : Type 0 where
  pub target : TargetIs f s n a.to a.t a.target
  pub remembers : Remembered f a.to a.target m

module _ {f s : Bytes} {n : ℕ} {a : Aim} {m : List (Option Bool)} (holds : AimHolds f s n a m) where
  pub to_none : a.target ≡ Nowhere → ToNone f s n a.to a.t
  to_none e = subst (λ (g : Target). TargetIs f s n a.to a.t g) e holds.target

  pub to_bytes : {r many : ℕ} {h : Home} → a.target ≡ Untyped r h many → ToBytes f s n a.to a.t r h many
  to_bytes e = subst (λ (g : Target). TargetIs f s n a.to a.t g) e holds.target

  -- whatever it leads to, it is one of pointers
  pub aim_points : Points f a.t
  aim_points = go a.target holds.target
    where
      go : (g : Target) → TargetIs f s n a.to a.t g → Points f a.t
      go Nowhere w = w.points
      go (Untyped region h many) w = inr w.raw
      go (Run region h map z run) w = inl w.typed

  module _ {r z run : ℕ} {h : Home} {map : Bytes} (e : a.target ≡ Run r h map z run) where
    pub to_run : ToRun f s n a.to a.t r h map z run
    to_run = subst (λ (g : Target). TargetIs f s n a.to a.t g) e holds.target

    pub remembered : Remembers f h.entry map run a.to m
    remembered = subst (λ (g : Target). Remembered f a.to g m) e holds.remembers

    pub aim_kept : {k : List (Option Bool)} → Remembers f h.entry map run a.to k → AimHolds f s n a k
    aim_kept {k} w = record { target = holds.target; remembers = subst (λ (g : Target). Remembered f a.to g k) (sym e) w }

-- ---- the pointer at an address

-- where a run stands, its regions given as bytes
pub stands_under : {f s : Bytes} {n r : ℕ} {h : Home} → StandsAt f s n r h → (t : ℕ) (q : Bytes) {a o : ℕ} {p : Bytes} {b : Bool} → Narrow f → p ≡ map_list s h.frame → o ≡ page_owner s (a / page_bytes)
    → StandsIs f r o h.entry p a t q b → Tells b (Stands (module_of f) (typing_of f s n) (sub (under q) ((module_of f).term t)) r a)
unfolding view
stands_under {f} {s} {n} {r} home t q {a} narrow ep eo is =
    does_tells (dec_stands (module_of f) (typing_of f s n) (sub (under q) ((module_of f).term t)) r a) (is (typing_of f s n) (sym eo) (type_some home narrow ep))

region_is : (f to : Bytes) (t : ℕ) {r : ℕ} → r ≡ region_under f to t → r ≡ (under {k = live} to (region_of ((module_of f).term t))).number
region_is f to t e = e ∙ sym (ap (λ (z : Region live). z.number) (under_is to (region_of ((module_of f).term t))))

module _ {f s : Bytes} {n : ℕ} {to : Bytes} {t x : ℕ} {v : ℕ} (ev : v ≡ memory_number (view s).memory x 4) where
  -- a value of its type, in four bytes
  by_value : {b : Bool} → Points f t → Tells b (Value (module_of f) (typing_of f s n) (sub (under to) ((module_of f).term t)) v) → Tells b (PrimitiveAt f s n to t x)
  by_value points u = tells_map (λ z. record { is = z }) (λ z. z.is) (rw (width_pointer (under to) ((module_of f).term t) points, ← ev) u)

  pub pointer_zero : Points f t → v ≡ 0 → PrimitiveAt f s n to t x
  pointer_zero points z =
      (by_value points (⊎_elim
      (λ e. value_ptr (module_of f) (typing_of f s n) (under to) ((module_of f).term t) e (tells_yes (inl z)))
      (λ e. value_raw (module_of f) (typing_of f s n) (under to) ((module_of f).term t) e (tells_yes (inl z))) points)).holds refl

  by_run : {b : Bool} {r : ℕ} (run : ℕ) → v ≢ 0 → form ((module_of f).term t) ≡ 2 → (module_of f).term run ≡ inner ((module_of f).term t) → r ≡ region_under f to t
      → Tells b (Stands (module_of f) (typing_of f s n) (sub (under to) ((module_of f).term run)) r v) → Tells b (PrimitiveAt f s n to t x)
  by_run run d two i er w =
      by_value (inl two) (value_ptr (module_of f) (typing_of f s n) (under to) ((module_of f).term t) two
      (tells_map (λ z. inr z) (⊎_elim (λ z. absurd (d z)) (λ z. z)) (rw (i, region_is f to t er) at w)))

  by_bytes : {b : Bool} {r many : ℕ} → v ≢ 0 → form ((module_of f).term t) ≡ 11 → many ≡ number_of ((module_of f).term t) → r ≡ region_under f to t
      → Tells b (InUntyped (typing_of f s n) many r v) → Tells b (PrimitiveAt f s n to t x)
  by_bytes d raw e er w =
      by_value (inr raw) (value_raw (module_of f) (typing_of f s n) (under to) ((module_of f).term t) raw
      (tells_map (λ z. inr z) (⊎_elim (λ z. absurd (d z)) (λ z. z)) (rw (e, region_is f to t er) at w)))

  pub pointer_run : {b : Bool} {r z run : ℕ} {h : Home} {map : Bytes} {o : ℕ} → Narrow f → v ≢ 0 → ToRun f s n to t r h map z run → o ≡ page_owner s (v / page_bytes)
      → StandsIs f r o h.entry map v run to b → Tells b (PrimitiveAt f s n to t x)
  pointer_run narrow d w eo is = by_run _ d w.typed w.inside w.under (stands_under w.home _ to narrow w.map_is eo is)

  pub pointer_bytes : {b : Bool} {r many : ℕ} {h : Home} {o : ℕ} → Narrow f → v ≢ 0 → ToBytes f s n to t r h many → o ≡ page_owner s (v / page_bytes)
      → UntypedIs r o h.entry v many b → Tells b (PrimitiveAt f s n to t x)
  pointer_bytes narrow d w eo is = by_bytes d w.raw w.number w.under (untyped_some w.home narrow eo is)

  -- in a region that is not live there is nothing to lead to
  pub pointer_none : v ≢ 0 → ToNone f s n to t → Tells false (PrimitiveAt f s n to t x)
  pointer_none d w =
      ⊎_elim
      (λ e. by_value w.points (value_ptr (module_of f) (typing_of f s n) (under to) ((module_of f).term t) e (tells_no (⊎_elim (λ z. d z) (λ z. stands_none f s n _ w.dead (rw (← region_is f to t refl) at z))))))
      (λ e. by_bytes d e refl refl (tells_no (untyped_none f s n _ w.dead)))
      w.points

-- ---- pointers of the same type, one after the other

-- term and regions matter only by the type that they give
pub primitive_same : {f s : Bytes} {n : ℕ} {to : Bytes} {t : ℕ} {old : Bytes} {u x : ℕ} → sub (under {k = live} old) ((module_of f).term u) ≡ sub (under to) ((module_of f).term t)
    → PrimitiveAt f s n old u x → PrimitiveAt f s n to t x
primitive_same {f} {s} {n} {x = x} e w =
    record { is = subst (λ (T : Tree live). Value (module_of f) (typing_of f s n) T (memory_number (view s).memory x (width T))) e w.is }

-- the last aim, if there is one, with what is remembered of it
abbrev pub LastHolds : Bytes → Bytes → ℕ → Option Aim → List (Option Bool) → Type 0
LastHolds f s n None m = Unit {0}
LastHolds f s n (Some a) m = AimHolds f s n a m

-- the aim of pointers of term t under `to`
pub record AimsAt (f s : Bytes) (n : ℕ) (to : Bytes) (t : ℕ) (a : Aim) (m : List (Option Bool)) : Type 0 where
  pub holds : AimHolds f s n a m
  pub same : sub (under {k = live} a.to) ((module_of f).term a.t) ≡ sub (under to) ((module_of f).term t)

pub aim_same : {f s : Bytes} {n : ℕ} {to : Bytes} {t : ℕ} {a : Aim} {m : List (Option Bool)} {terms x y : ℕ} {b : Bool} → AimHolds f s n a m → Terms f terms → x ≡ place_of terms a.t → y ≡ place_of terms t
    → (b ≡ places_same variable f x a.to y to) × (b ≡ places_same live f x a.to y to) → b ≡ true → AimsAt f s n to t a m
aim_same {f} {to = to} {t = t} {a = a} w terms ex ey e h = record { holds = w; same = same_tree live f a.t t a.to to terms ex ey (sym e.1 ∙ h) }

pub aim_new : {f s : Bytes} {n : ℕ} {to : Bytes} {t : ℕ} {g : Target} {m : List (Option Bool)} → TargetIs f s n to t g → Forgotten m
    → AimsAt f s n to t (record { t = t; to = to; target = g }) m
aim_new {f} {to = to} {g = g} {m = m} is w = record { holds = record { target = is; remembers = go g }; same = refl }
  where
    go : (g : Target) → Remembered f to g m
    go Nowhere = tt
    go (Untyped region h many) = tt
    go (Run region h map z run) = remembers_nothing w
