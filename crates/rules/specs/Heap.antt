-- Document 01, "The machine": live regions, their types, and the values of a type. A heap typing is the owner of each page and
-- the closed type of each live region: all that decides whether a number is a value of a type. Assumes nothing.
use Rattle.std.specs.Prelude.{◌≡◌, cond, ◌⊎◌, List, [], ◌∷◌, ◌++◌, ℕ, zero, suc, ◌+◌, ◌*◌, ◌^◌, ◌/◌, ◌%◌, ◌<◌, ◌≤◌, eqb}
use Rattle.std.proofs.Math.Decide.{ℕ_discrete, dec_lt, dec_le}
use Rattle.rules.specs.Limits.{pages, page_bytes}
use Rattle.words.specs.Decide.{map_dec, dec_both, dec_either, dec_any}
use Rattle.rules.specs.Types.{variable, live, region, Tree, int, ptr, arr, struct, raw_ptr, bytes, dec_tree, sub}
use Rattle.rules.specs.Module.{Module, Function}
use Rattle.rules.specs.Flat.{flat, size, RunAt, dec_run, position_at}
use Rattle.rules.specs.State.{View}

-- "only the frame's map leads from one to the other": a written type closed by a region map
abbrev pub close : (ℕ → ℕ) → Tree variable → Tree live
close μ T = sub (λ r. region (μ r.number)) T

-- ---- live regions

-- "A region is live while it is local to a frame": x is 1 + a local region of a frame of function f with map μ (as an owner is)
pub record Local (f : Function) (μ : ℕ → ℕ) (x : ℕ) : Type 0 where
  pub index : ℕ
  pub below : index < f.locals
  pub is : suc (μ (f.region_params + index)) ≡ x

unfoldable pub dec_local : (f : Function) (μ : ℕ → ℕ) (x : ℕ) → Dec (Local f μ x)
dec_local f μ x = map_dec (λ h. record { index = h.0; below = h.1.0; is = h.1.1 }) (λ l. (l.index, (l.below, l.is)))
    (dec_any (λ i. ℕ_discrete (suc (μ (f.region_params + i))) x) f.locals)

-- x is 1 + a region that is local to one of the lowest n frames
pub record Live (m : Module) (fn : ℕ → ℕ) (map : ℕ → ℕ → ℕ) (n x : ℕ) : Type 0 where
  pub frame : ℕ
  pub below : frame < n
  pub local : Local (m.function (fn frame)) (map frame) x

unfoldable pub dec_live : (m : Module) (fn : ℕ → ℕ) (map : ℕ → ℕ → ℕ) (n x : ℕ) → Dec (Live m fn map n x)
dec_live m fn map n x = map_dec (λ h. record { frame = h.0; below = h.1.0; local = h.1.1 }) (λ l. (l.frame, (l.below, l.local)))
    (dec_any (λ k. dec_local (m.function (fn k)) (map k) x) n)

-- the local regions of a frame, and of the lowest n frames
unfoldable pub local_list : (ℕ → ℕ) → ℕ → ℕ → List ℕ
local_list μ lo zero = []
local_list μ lo (suc c) = μ (lo + c) ∷ local_list μ lo c

unfoldable pub live_list : Module → (ℕ → ℕ) → (ℕ → ℕ → ℕ) → ℕ → List ℕ
live_list m fn map zero = []
live_list m fn map (suc k) = local_list (map k) (m.function (fn k)).region_params (m.function (fn k)).locals ++ live_list m fn map k

-- t (lo + i) where r is μ (lo + i) for an i below c, else old r
unfoldable pub look : (μ : ℕ → ℕ) (t : ℕ → Tree live) (lo : ℕ) (old : ℕ → Tree live) (c r : ℕ) → Tree live
look μ t lo old zero r = old r
look μ t lo old (suc c) r = cond (eqb (μ (lo + c)) r) (t (lo + c)) (look μ t lo old c r)

-- the type of live region r: that of the frame it is local to, closed by that frame's map. (A region that is not live has the
-- type int 0, of size 0 and not untyped: there no pointer has a value but zero.)
unfoldable pub type_of : Module → (ℕ → ℕ) → (ℕ → ℕ → ℕ) → ℕ → ℕ → Tree live
type_of m fn map zero r = int 0
type_of m fn map (suc k) r =
    look (map k) (λ i. close (map k) ((m.function (fn k)).region_type i)) (m.function (fn k)).region_params (type_of m fn map k) (m.function (fn k)).locals r

-- owner: 0 of a page that no region owns, else 1 + the live region
pub record HeapTyping : Type 0 where
  pub owner : ℕ → ℕ
  pub type : ℕ → Tree live

-- of a state with n frames
abbrev pub heap_typing : Module → View → ℕ → HeapTyping
heap_typing m v n = record { owner = v.owner; type = type_of m v.fn v.map n }

-- ---- values

-- "An object of size S lies at a multiple of S in its page, 256 / S (rounded down) to a page"
abbrev pub places_in_page : ℕ → ℕ
places_in_page s = page_bytes / s

-- "lies in a page of the live region at a place where that run of primitives, live regions put for variables, lies inside one
-- object, used or free": address a, in place a % 256 / S of its page and a % 256 % S bytes into the object there
pub record Stands (m : Module) (W : HeapTyping) (T : Tree live) (r a : ℕ) : Type 0 where
  pub inside : a / page_bytes < pages
  pub own : W.owner (a / page_bytes) ≡ suc r
  pub sized : 0 < size m (W.type r)
  pub fits : size m (W.type r) * suc (a % page_bytes / size m (W.type r)) ≤ page_bytes
  pub run : RunAt (flat m (W.type r)) (a % page_bytes % size m (W.type r)) (flat m T)

unfoldable pub dec_stands : (m : Module) (W : HeapTyping) (T : Tree live) (r a : ℕ) → Dec (Stands m W T r a)
dec_stands m W T r a = map_dec
    (λ h. record { inside = h.0.0; own = h.0.1; sized = h.1.0; fits = h.1.1.0; run = h.1.1.1 })
    (λ h. ((h.inside, h.own), (h.sized, (h.fits, h.run))))
    (dec_both (dec_both (dec_lt (a / page_bytes) pages) (ℕ_discrete (W.owner (a / page_bytes)) (suc r)))
    (dec_both (dec_lt 0 (size m (W.type r)))
    (dec_both (dec_le (size m (W.type r) * suc (a % page_bytes / size m (W.type r))) page_bytes)
    (dec_run (flat m (W.type r)) (position_at (flat m (W.type r)) (a % page_bytes % size m (W.type r))) (flat m T)))))

-- document 02, P3: "the address must have its bytes inside one page of that region, used or not (these and zero are its values)": the n
-- bytes from address a on lie in one page of live region r, which is untyped
pub record InUntyped (W : HeapTyping) (n r a : ℕ) : Type 0 where
  pub inside : a / page_bytes < pages
  pub own : W.owner (a / page_bytes) ≡ suc r
  pub untyped : W.type r ≡ bytes
  pub fits : a % page_bytes + n ≤ page_bytes

unfoldable pub dec_in_untyped : (W : HeapTyping) (n r a : ℕ) → Dec (InUntyped W n r a)
dec_in_untyped W n r a = map_dec
    (λ h. record { inside = h.0.0; own = h.0.1; untyped = h.1.0; fits = h.1.1 })
    (λ h. ((h.inside, h.own), (h.untyped, h.fits)))
    (dec_both (dec_both (dec_lt (a / page_bytes) pages) (ℕ_discrete (W.owner (a / page_bytes)) (suc r)))
    (dec_both (dec_tree (W.type r) bytes) (dec_le (a % page_bytes + n) page_bytes)))

-- "An address is a value of a pointer type if it is zero, or lies .."; an integer is below 256 to its width; only primitives
-- have values
abbrev pub Value : Module → HeapTyping → Tree live → ℕ → Type 0
Value m W (int w) v = v < 256 ^ w
Value m W (ptr T r) v = (v ≡ 0) ⊎ Stands m W T r.number v
Value m W (arr n T) v = ⊥
Value m W (struct N rs) v = ⊥
Value m W (raw_ptr n r) v = (v ≡ 0) ⊎ InUntyped W n r.number v
Value m W bytes v = ⊥

unfoldable pub dec_value : (m : Module) (W : HeapTyping) (T : Tree live) (v : ℕ) → Dec (Value m W T v)
dec_value m W (int w) v = dec_lt v (256 ^ w)
dec_value m W (ptr T r) v = dec_either (ℕ_discrete v 0) (dec_stands m W T r.number v)
dec_value m W (arr n T) v = no (λ h. h)
dec_value m W (struct N rs) v = no (λ h. h)
dec_value m W (raw_ptr n r) v = dec_either (ℕ_discrete v 0) (dec_in_untyped W n r.number v)
dec_value m W bytes v = no (λ h. h)
