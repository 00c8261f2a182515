-- What the tests of frames and of live regions say, on the bytes of file and state. Assumes nothing.
use Rattle.std.specs.Prelude.{◌≡◌, Bool, ◌≢◌, List, ℕ, suc, ◌+◌, ◌<◌, ◌^◌, length, not, ◌&&◌, eqb, ltb}
use Rattle.std.proofs.Math.Path.{refl}
use Rattle.std.proofs.Common.{sym, ap, ◌∙◌, arith, add-one}
use Rattle.words.specs.Bytes.{Bytes}
use Rattle.rules.specs.Limits.{live_regions}
use Rattle.rules.specs.File.{records, instructions_of, regions_of}
use Rattle.rules.specs.Walk.{whole}
use Rattle.rules.specs.Records.{head_of}
use Rattle.rules.specs.Module.{Function, regions}
use Rattle.rules.specs.Decode.{module_of, function_of, start_of}
use Rattle.rules.specs.State.{frame_function, frame_map}
use Rattle.rules.specs.Heap.{Local, Live}
use Rattle.rules.specs.declared.Record.{Record}
use Rattle.walk.specs.Tables.{starts_of, starts_below}
use Rattle.stack.specs.Tells.{Tells, tells_map, tells_lt, tells_eq, tells_and, tells_not}

-- what the code is handed of a file: its starts and its number of functions; no place of the file is 2 ^ 32 or more
pub record Known (f : Bytes) (starts : List ℕ) (functions : ℕ) : Type 0 where
  pub short : length f < 2 ^ 32
  pub table : starts ≡ starts_of f
  pub count : functions ≡ (module_of f).functions

-- frame k's function, and its record 7
abbrev pub function_at : Bytes → Bytes → ℕ → Function
function_at f s k = (module_of f).function (frame_function s k)

abbrev pub head_at : Bytes → Bytes → ℕ → Record
head_at f s k = head_of f (whole f) (frame_function s k)

-- entry i of frame k's map does not lead to the region before x (x is 1 + region, as an owner is)
pub record Elsewhere (s : Bytes) (k i x : ℕ) : Type 0 where
  pub is : suc (frame_map s k i) ≢ x

pub record NotLocal (f s : Bytes) (x k : ℕ) : Type 0 where
  pub not : ¬ Local (function_at f s k) (frame_map s k) x

abbrev pub NotLive : Bytes → Bytes → ℕ → ℕ → Type 0
NotLive f s n x = ¬ Live (module_of f) (frame_function s) (frame_map s) n x

-- local region i of frame k, whose local regions start at entry a: below the limit, live in no frame below, not an earlier one
pub record LocalOk (f s : Bytes) (k a i : ℕ) : Type 0 where
  pub numbered : frame_map s k (a + i) < live_regions
  pub fresh : NotLive f s k (suc (frame_map s k (a + i)))
  pub earlier : (j : ℕ) → j < i → Elsewhere s k (a + j) (suc (frame_map s k (a + i)))

pub record LocalsOk (f s : Bytes) (k : ℕ) : Type 0 where
  pub each : (i : ℕ) → i < (head_at f s k).b → LocalOk f s k (head_at f s k).a i

-- ---- the function's numbers are those of its record 7

module _ (f s : Bytes) (k : ℕ) where
  pub params_at : (function_at f s k).region_params ≡ (head_at f s k).a
  unfolding module_of function_of
  params_at = refl

  pub locals_at : (function_at f s k).locals ≡ (head_at f s k).b
  unfolding module_of function_of
  locals_at = refl

  pub registers_at_law : (function_at f s k).registers ≡ (head_at f s k).c
  unfolding module_of function_of
  registers_at_law = refl

  pub regions_at : regions (function_at f s k) ≡ regions_of (head_at f s k)
  unfolding module_of function_of
  regions_at = refl

  pub length_at : (function_at f s k).code_length ≡ instructions_of (head_at f s k)
  unfolding module_of function_of
  length_at = refl

-- ---- what the tests of live regions show

-- an entry of the map, read as r
pub elsewhere_by : {s : Bytes} {k i r : ℕ} (x : ℕ) → r ≡ frame_map s k i → Tells (not (eqb (r + 1) x)) (Elsewhere s k i x)
elsewhere_by {s} {k} {i} {r} x e =
    tells_map (λ n. record { is = λ (h : suc (frame_map s k i) ≡ x). n (omega arith) }) (λ w (h : r + 1 ≡ x). w.is (omega arith)) (tells_not (tells_eq (r + 1) x))

module _ {f s : Bytes} {b : Bool} where
  -- the local entries of the function with record 7 h
  pub local_by : {k : ℕ} {h : Record} {a n : ℕ} (x : ℕ) → h ≡ head_at f s k → a ≡ h.a → n ≡ h.b
      → Tells b ((j : ℕ) → j < n → Elsewhere s k (a + j) x) → Tells b (NotLocal f s x k)
  local_by {k} x e p q t =
      let pa : _ ≡ (function_at f s k).region_params = p ∙ ap (λ (r : Record). r.a) e ∙ sym (params_at f s k) in
      let qa : _ ≡ (function_at f s k).locals = q ∙ ap (λ (r : Record). r.b) e ∙ sym (locals_at f s k) in
      tells_map
      (λ w. record { not = λ l. (w l.index (rw qa l.below)).is (rw pa l.is) })
      (λ w j l. record { is = λ i. w.not (record { index = j; below = rw qa at l; is = rw pa at i }) })
      t

  pub live_by_law : {n x : ℕ} → Tells b ((k : ℕ) → k < n → NotLocal f s x k) → Tells b (NotLive f s n x)
  live_by_law t =
      tells_map (λ w l. (w l.frame l.below).not l.local) (λ w k h. record { not = λ l. w (record { frame = k; below = h; local = l }) }) t

  pub locals_by : {k : ℕ} {h : Record} {a n : ℕ} → h ≡ head_at f s k → a ≡ h.a → n ≡ h.b
      → Tells b ((i : ℕ) → i < n → LocalOk f s k a i) → Tells b (LocalsOk f s k)
  locals_by {k} e p q t =
      let pa : _ ≡ (head_at f s k).a = p ∙ ap (λ (r : Record). r.a) e in
      let qa : _ ≡ (head_at f s k).b = q ∙ ap (λ (r : Record). r.b) e in
      tells_map (λ w. record { each = w }) (λ w. w.each) (rw (pa, qa) at t)

pub local_ok_by : {f s : Bytes} {k a i r : ℕ} {fresh first : Bool} → r ≡ frame_map s k (a + i) → Tells fresh (NotLive f s k (r + 1))
    → Tells first ((j : ℕ) → j < i → Elsewhere s k (a + j) (r + 1)) → Tells (ltb r live_regions && (fresh && first)) (LocalOk f s k a i)
local_ok_by {f} {s} {k} {a} {i} {r} e t u =
    let d : r + 1 ≡ suc (frame_map s k (a + i)) = add-one r ∙ ap suc e in
    tells_map (λ p. record { numbered = p.0; fresh = p.1.0; earlier = p.1.1 }) (λ w. (w.numbered, (w.fresh, w.earlier)))
    (tells_and (tells_map (λ l. rw (← e) l) (λ l. rw e l) (tells_lt r live_regions)) (tells_and (rw d at t) (rw d at u)))

-- no start of a short file is far
pub start_few : (f : Bytes) (g : ℕ) → length f < 2 ^ 32 → start_of f g < 2 ^ 30
unfolding start_of whole records
start_few f g h = let a = starts_below f (records f) g in omega arith
