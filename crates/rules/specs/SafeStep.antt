-- What demand 3 claims of one step of a list (`SafeStep`): that it is the rules' step and moves on, ends or stops; which bytes a load or
-- store touches, with the count of those that stray; what a load fetches; what bears on the step and what it changes; what becomes of free
-- and used objects (document 02, P1); and the state test after it. Assumes nothing.
use Rattle.std.specs.Prelude.{◌≡◌, cond, ◌⊎◌, ◌≢◌, List, [], ◌∷◌, ℕ, zero, suc, ◌+◌, ◌*◌, ◌/◌, ◌%◌, ◌<◌, ◌≤◌, length}
use Rattle.std.proofs.Common.{inl, inr}
use Rattle.std.proofs.Math.Decide.{dec_lt, dec_le}
use Rattle.words.specs.Bytes.{Bytes, byte_at}
use Rattle.words.specs.Decide.{does, map_dec, dec_both, dec_either}
use Rattle.rules.specs.Limits.{pages, page_bytes, memory_at, memory_bytes}
use Rattle.rules.specs.Types.{variable, live, Variable, Tree, int, ptr, arr, struct, raw_ptr, bytes, width}
use Rattle.rules.specs.Module.{Module, regions}
use Rattle.rules.specs.Flat.{Placed, at, Has, here, there, flat, size}
use Rattle.rules.specs.Typing.{◌⊢◌∶◌}
use Rattle.rules.specs.Decision.{dec_reg, with_ptr, with_raw}
use Rattle.rules.specs.State.{InRange, View, view, memory_place, memory_number}
use Rattle.rules.specs.Heap.{close, Live, dec_live, type_of, heap_typing, Stands, dec_stands, InUntyped, dec_in_untyped, Value}
use Rattle.rules.specs.Step.{Effect, fetch, save, take_places, grant_page, free_place, stop, stuck, effect_of}
use Rattle.rules.specs.Footprint.{footprint, Within}
use Rattle.rules.specs.Writes.{apply_state}
use Rattle.rules.specs.Run.{Step, state_after}
use Rattle.rules.specs.StateTest.{Listed, Passes}
use Rattle.rules.specs.declared.PageRange.{PageRange}

-- ---- what a load or store touches

-- Address i lies in place j of page p, whose objects have size s: inside one object, used or free.
pub record InObject (i p j s : ℕ) : Type 0 where
  pub low : page_bytes * p + s * j ≤ i
  pub high : i < page_bytes * p + s * suc j
  pub whole : s * suc j ≤ page_bytes

-- Address i lies in one of these primitives, with distances taken from address x; in one of the run of T at x.
pub record InPrimitives (l : List (Placed live)) (x i : ℕ) : Type 0 where
  pub distance : ℕ
  pub type : Tree live
  pub has : Has l distance type
  pub low : x + distance ≤ i
  pub high : i < x + distance + width type

abbrev pub InRun : Module → Tree live → (x i : ℕ) → Type 0
InRun m T x i = InPrimitives (flat m T).prims x i

-- "The value that the type of a pointer not zero names is that run of primitives at its address." Register b of the top frame k has
-- type pointer to `target` in region variable `within`, which is in scope and leads to a live region; the run of the target, closed by
-- the frame's map, stands at the register's address, inside one object, used or free, of that region.
pub record Names (m : Module) (v : View) (k b : ℕ) (target : Tree variable) (within : Variable) : Type 0 where
  pub register : m.function (v.fn k) ⊢ b ∶ ptr target within
  pub scope : within.number < regions (m.function (v.fn k))
  pub alive : Live m v.fn v.map (suc k) (suc (v.map k within.number))
  pub run : Stands m (heap_typing m v (suc k)) (close (v.map k) target) (v.map k within.number) (v.reg k b)

-- The w bytes touched from x on lie in the value that register b names, and that value lies whole inside one object.
pub record Touches (m : Module) (v : View) (k b x w : ℕ) : Type 0 where
  pub target : Tree variable
  pub within : Variable
  pub names : Names m v k b target within
  pub address : v.reg k b ≡ x
  pub object : (i : ℕ) → x ≤ i → i < x + size m target
      → InObject i (x / page_bytes) (x % page_bytes / size m (type_of m v.fn v.map (suc k) (v.map k within.number))) (size m (type_of m v.fn v.map (suc k) (v.map k within.number)))
  pub bytes : (i : ℕ) → x ≤ i → i < x + w → InRun m (close (v.map k) target) x i

-- Document 02, P3: "for kinds 37 and 38 the value of demand 3 is those d bytes, inside one page of a live untyped region in scope, whichever
-- objects lie there". Register b of the top frame k is an untyped pointer to `count` bytes in region variable `within`, which is in scope and
-- leads to a live region; that is untyped and has the bytes from the register's address on in one page.
pub record NamesBytes (m : Module) (v : View) (k b count : ℕ) (within : Variable) : Type 0 where
  pub register : m.function (v.fn k) ⊢ b ∶ raw_ptr count within
  pub scope : within.number < regions (m.function (v.fn k))
  pub alive : Live m v.fn v.map (suc k) (suc (v.map k within.number))
  pub bytes : InUntyped (heap_typing m v (suc k)) count (v.map k within.number) (v.reg k b)

-- the w bytes touched from x on lie in those that register b names
pub record TouchesBytes (m : Module) (v : View) (k b x w : ℕ) : Type 0 where
  pub count : ℕ
  pub within : Variable
  pub names : NamesBytes m v k b count within
  pub bytes : (i : ℕ) → x ≤ i → i < x + w → (v.reg k b ≤ i) × (i < v.reg k b + count)

-- ---- how many bytes stray

-- address i lies in the value that register b names: a typed pointer's, an untyped pointer's
pub record InTyped (m : Module) (v : View) (k b i : ℕ) : Type 0 where
  pub target : Tree variable
  pub within : Variable
  pub names : Names m v k b target within
  pub byte : InRun m (close (v.map k) target) (v.reg k b) i

pub record InRaw (m : Module) (v : View) (k b i : ℕ) : Type 0 where
  pub count : ℕ
  pub within : Variable
  pub names : NamesBytes m v k b count within
  pub byte : (v.reg k b ≤ i) × (i < v.reg k b + count)

abbrev pub InValue : Module → View → (k b i : ℕ) → Type 0
InValue m v k b i = InTyped m v k b i ⊎ InRaw m v k b i

-- that is decided: for a list of primitives, for a register's type, and whole
unfoldable pub dec_in_primitives : (l : List (Placed live)) (x i : ℕ) → Dec (InPrimitives l x i)
dec_in_primitives [] x i = no (λ h. elim h.has [ ])
dec_in_primitives (at d T ∷ l) x i = map_dec
    (λ h. elim h [
      | inl a ↦ record { distance = d; type = T; has = here; low = a.0; high = a.1 }
      | inr a ↦ record { distance = a.distance; type = a.type; has = there a.has; low = a.low; high = a.high }
    ])
    (λ h. one h.has h.low h.high)
    (dec_either (dec_both (dec_le (x + d) i) (dec_lt i (x + d + width T))) (dec_in_primitives l x i))
  where
    one : {e : ℕ} {U : Tree live} → Has (at d T ∷ l) e U → x + e ≤ i → i < x + e + width U → ((x + d ≤ i) × (i < x + d + width T)) ⊎ InPrimitives l x i
    one here low high = inl (low, high)
    one {e} {U} (there h) low high = inr (record { distance = e; type = U; has = h; low = low; high = high })

unfoldable pub dec_names : (m : Module) (v : View) (k b : ℕ) (T : Tree variable) (r : Variable) → Dec (Names m v k b T r)
dec_names m v k b T r = map_dec (λ h. record { register = h.0; scope = h.1.0; alive = h.1.1.0; run = h.1.1.1 }) (λ h. (h.register, (h.scope, (h.alive, h.run))))
    (dec_both (dec_reg (m.function (v.fn k)) b (ptr T r)) (dec_both (dec_lt r.number (regions (m.function (v.fn k))))
    (dec_both (dec_live m v.fn v.map (suc k) (suc (v.map k r.number))) (dec_stands m (heap_typing m v (suc k)) (close (v.map k) T) (v.map k r.number) (v.reg k b)))))

unfoldable pub dec_in_typed : (m : Module) (v : View) (k b i : ℕ) → Dec (InTyped m v k b i)
dec_in_typed m v k b i = map_dec (λ h. record { target = h.0; within = h.1.0; names = h.1.1.0; byte = h.1.1.1 }) (λ h. (h.target, (h.within, (h.names, h.byte))))
    (with_ptr (m.function (v.fn k)) b _ (λ T r h. h.0.register.1) (λ T r. dec_both (dec_names m v k b T r) (dec_in_primitives (flat m (close (v.map k) T)).prims (v.reg k b) i)))

unfoldable pub dec_names_bytes : (m : Module) (v : View) (k b n : ℕ) (r : Variable) → Dec (NamesBytes m v k b n r)
dec_names_bytes m v k b n r = map_dec (λ h. record { register = h.0; scope = h.1.0; alive = h.1.1.0; bytes = h.1.1.1 }) (λ h. (h.register, (h.scope, (h.alive, h.bytes))))
    (dec_both (dec_reg (m.function (v.fn k)) b (raw_ptr n r)) (dec_both (dec_lt r.number (regions (m.function (v.fn k))))
    (dec_both (dec_live m v.fn v.map (suc k) (suc (v.map k r.number))) (dec_in_untyped (heap_typing m v (suc k)) n (v.map k r.number) (v.reg k b)))))

unfoldable pub dec_in_raw : (m : Module) (v : View) (k b i : ℕ) → Dec (InRaw m v k b i)
dec_in_raw m v k b i = map_dec (λ h. record { count = h.0; within = h.1.0; names = h.1.1.0; byte = h.1.1.1 }) (λ h. (h.count, (h.within, (h.names, h.byte))))
    (with_raw (m.function (v.fn k)) b _ (λ n r h. h.0.register.1) (λ n r. dec_both (dec_names_bytes m v k b n r) (dec_both (dec_le (v.reg k b) i) (dec_lt i (v.reg k b + n)))))

unfoldable pub dec_in_value : (m : Module) (v : View) (k b i : ℕ) → Dec (InValue m v k b i)
dec_in_value m v k b i = dec_either (dec_in_typed m v k b i) (dec_in_raw m v k b i)

-- how many of the w addresses from x on do not lie in that value
unfoldable pub stray_from : Module → View → (k b x w : ℕ) → ℕ
stray_from m v k b x zero = 0
stray_from m v k b x (suc w) = stray_from m v k b x w + cond (does (dec_in_value m v k b (x + w))) 0 1

-- the bytes that an effect touches by a load or a store outside the value that its pointer names
abbrev pub stray_by : Module → View → ℕ → Effect → ℕ
stray_by m v k e =
    let f = footprint e in
    stray_from m v k f.through f.loads.from f.loads.bytes + stray_from m v k f.through f.stores.from f.stores.bytes

-- "The number of bytes that its loads and stores touch outside the value their pointer's type names, whole inside one object, used
-- or free, of a live region in scope"
unfoldable pub stray_bytes : Module → List Step → ℕ
stray_bytes m [] = 0
stray_bytes m (t ∷ ts) = stray_by m (view t.state) t.top t.effect + stray_bytes m ts

-- ---- what a load fetches

-- The w bytes from x on, as a number, are a value of the type of register a of the top frame k: no "value of a stated type that is not
-- there". It is a claim and no guard of the step, so that what a step does depends on no page byte.
pub record Fetches (m : Module) (v : View) (k a x w : ℕ) : Type 0 where
  pub register : a < (m.function (v.fn k)).registers
  pub value : Value m (heap_typing m v (suc k)) (close (v.map k) ((m.function (v.fn k)).register_type a)) (memory_number v.memory x w)

-- ---- what else a step depends on and changes

-- states that differ in page bytes only
pub record SameButPages (s t : Bytes) : Type 0 where
  pub lengths : length s ≡ length t
  pub bytes : (i : ℕ) → i < memory_at → byte_at s i ≡ byte_at t i

-- the page bytes that an effect reads, and those that it may change
abbrev pub Reads : Effect → ℕ → Type 0
Reads e i = Within (footprint e).loads i

abbrev pub Changes : Effect → ℕ → Type 0
Changes e i = Within (footprint e).stores i ⊎ Within (footprint e).clears i

-- these bytes lie in pages of the state's range
abbrev pub InOwnPages : Step → Type 0
InOwnPages t = (i : ℕ) → i < memory_bytes → Reads t.effect i ⊎ Changes t.effect i → InRange (view t.state).range (i / page_bytes)

-- ---- document 02, P1: free and used objects

-- how many bytes a place of a page has, by the page's owner: those of its region's objects, one in an untyped region; a page without owner
-- is one place, free as a whole
abbrev pub place_bytes : Module → View → (owner : ℕ) → ℕ
place_bytes m v zero = page_bytes
place_bytes m v (suc r) = size m (type_of m v.fn v.map v.frames r)

-- Address i lies in place j of page p.
pub record InPlace (m : Module) (v : View) (p j i : ℕ) : Type 0 where
  pub page : p < pages
  pub inside : InObject i p j (place_bytes m v (v.owner p))

-- An effect hands out that very place, one of the c from place q on, or grants its page.
pub data HandsOut (e : Effect) (p j : ℕ) : Type 0 where
  place : (q c n a : ℕ) → e ≡ take_places p q c n a → q ≤ j → j < q + c → HandsOut e p j
  page : (r c a : ℕ) → e ≡ grant_page p r c a → HandsOut e p j

-- how many places a new object takes, by its pointer's type: one; of an untyped pointer one for each of its bytes
abbrev pub places_of : Tree variable → ℕ
places_of (int w) = 0
places_of (ptr T r) = 1
places_of (arr n T) = 0
places_of (struct N rs) = 0
places_of (raw_ptr n r) = n
places_of bytes = 0

-- Register a has the address of place j of page p after a step; the c places from there on, as many as its type asks for, were free and
-- are used from then on.
pub record Taken (m : Module) (t : Step) (p j c a : ℕ) : Type 0 where
  pub count : c ≡ places_of ((m.function ((view t.state).fn t.top)).register_type a)
  pub free : (i : ℕ) → i < c → (view t.state).mark p (j + i) ≡ 0
  pub used : (i : ℕ) → i < c → (view (state_after m t)).mark p (j + i) ≢ 0
  pub address : (view (state_after m t)).reg t.top a ≡ page_bytes * p + place_bytes m (view t.state) ((view t.state).owner p) * j

-- what is handed out: places of a page that the region has, or the first ones of a page that it is granted
pub record NewTaken (m : Module) (t : Step) : Type 0 where
  pub place : (p j c n a : ℕ) → t.effect ≡ take_places p j c n a → Taken m t p j c a
  pub page : (p r c a : ℕ) → t.effect ≡ grant_page p r c a → Taken m t p 0 c a

-- the page byte at address i is another after a step
abbrev pub Differs : Module → Step → ℕ → Type 0
Differs m t i = byte_at (state_after m t) (memory_place i) ≢ byte_at t.state (memory_place i)

-- "An object handed out by kind 27 is now all zeros", in whichever way it got its place
abbrev pub NewZero : Module → Step → Type 0
NewZero m t = (p j i : ℕ) → InPlace m (view t.state) p j i → HandsOut t.effect p j → byte_at (state_after m t) (memory_place i) ≡ 0

-- "a step changes a free object's bytes only by a store into it, by handing it out or by granting its page"
abbrev pub FreeKept : Module → Step → Type 0
FreeKept m t = (p j i : ℕ) → InPlace m (view t.state) p j i → (view t.state).mark p j ≡ 0 → Differs m t i → Within (footprint t.effect).stores i ⊎ HandsOut t.effect p j

-- and a used object's only by a store into it
abbrev pub UsedKept : Module → Step → Type 0
UsedKept m t = (p j i : ℕ) → InPlace m (view t.state) p j i → (view t.state).mark p j ≢ 0 → Differs m t i → Within (footprint t.effect).stores i

-- a used object stays so until it is freed, or its page has no owner afterwards (by the count of pages, `Claim.pages`, a return)
abbrev pub UsedStays : Module → Step → Type 0
UsedStays m t = (p j : ℕ) → (view t.state).mark p j ≢ 0
    → ((view (state_after m t)).mark p j ≢ 0) ⊎ ((t.effect ≡ free_place p j) ⊎ ((view (state_after m t)).owner p ≡ 0))

-- ---- one step of a list

pub record SafeStep (m : Module) (t : Step) : Type 0 where
  -- it is the step that the rules prescribe for the top frame
  pub frame : (view t.state).frames ≡ suc t.top
  pub is : t.effect ≡ effect_of m t.form (view t.state)
  -- it moves on, ends or stops for a listed reason
  pub moves : t.effect ≢ stuck
  pub stops : (n : ℕ) → t.effect ≡ stop n → Listed n
  -- loads and stores touch the value that their pointer's type names
  pub loads : (b a x w : ℕ) → t.effect ≡ fetch b a x w → Touches m (view t.state) t.top b x w ⊎ TouchesBytes m (view t.state) t.top b x w
  pub stores : (b x w y : ℕ) → t.effect ≡ save b x w y → Touches m (view t.state) t.top b x w ⊎ TouchesBytes m (view t.state) t.top b x w
  -- what a load fetches is a value of its register's type
  pub fetches : (b a x w : ℕ) → t.effect ≡ fetch b a x w → Fetches m (view t.state) t.top a x w
  -- no other page byte bears on what it does or leaves, and none other is changed
  pub decides : (s : Bytes) → SameButPages s t.state → effect_of m t.form (view s) ≡ t.effect
  pub reads : (s : Bytes) → SameButPages s t.state
      → ((i : ℕ) → i < memory_bytes → Reads t.effect i → byte_at s (memory_place i) ≡ byte_at t.state (memory_place i))
      → SameButPages (apply_state m t.top t.effect s) (state_after m t)
  pub keeps : (i : ℕ) → i < memory_bytes → ¬ Changes t.effect i → byte_at (state_after m t) (memory_place i) ≡ byte_at t.state (memory_place i)
  -- what kinds 27 and 36 hand out was free, is used from then on and all zeros; else a store alone changes an object's bytes, free or used
  pub taken : NewTaken m t
  pub zeros : NewZero m t
  pub free : FreeKept m t
  pub used : UsedKept m t
  pub stays : UsedStays m t
  -- the page bytes that it reads or changes are in pages that the machine may own
  pub own_pages : InOwnPages t
  -- after it the state passes the state test
  pub after : Passes m (state_after m t)

abbrev pub AllSafe : Module → List Step → Type 0
AllSafe m [] = Unit {0}
AllSafe m (t ∷ ts) = SafeStep m t × AllSafe m ts

-- each step starts from a state of the machine with page range R
abbrev pub AllRanged : PageRange → List Step → Type 0
AllRanged R [] = Unit {0}
AllRanged R (t ∷ ts) = ((view t.state).range ≡ R) × AllRanged R ts
