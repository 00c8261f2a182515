-- Document 01, "Flat types": the primitives of a term with their distances, and its size, over a module; runs of consecutive
-- primitives. Assumes nothing.
use Rattle.std.specs.Prelude.{◌≡◌, cond, not, List, [], ◌∷◌, ◌++◌, map, ℕ, zero, suc, ◌+◌, ◌*◌, ◌<◌, leb, eqb, length, get_or, take, drop}
use Rattle.std.proofs.Common.{ap, ap₂}
use Rattle.std.proofs.Math.Decide.{ℕ_discrete, dec_lt}
use Rattle.words.specs.First.{first}
use Rattle.rules.specs.Limits.{size_limit}
use Rattle.words.specs.Decide.{dec_both, map_dec, dec_list}
use Rattle.rules.specs.Types.{RegionKind, variable, Region, Tree, int, ptr, arr, struct, raw_ptr, bytes, sub, arg, dec_tree}
use Rattle.rules.specs.Module.{Module}

-- a primitive and its distance in bytes from the start
pub data Placed (k : RegionKind) : Type 0 where
  at : ℕ → Tree k → Placed k

abbrev pub off : {k : RegionKind} → Placed k → ℕ
off (at d T) = d

abbrev pub type : {k : RegionKind} → Placed k → Tree k
type (at d T) = T

unfoldable pub dec_placed : {k : RegionKind} (p q : Placed k) → Dec (p ≡ q)
dec_placed (at d T) (at e U) = map_dec (λ h. ap₂ at h.0 h.1) (λ x. (ap off x, ap type x)) (dec_both (ℕ_discrete d e) (dec_tree T U))

unfoldable pub dec_prims : {k : RegionKind} (l m : List (Placed k)) → Dec (l ≡ m)
dec_prims l m = dec_list dec_placed l m

-- primitive T stands at distance d of the list
pub data Has {k : RegionKind} : List (Placed k) → ℕ → Tree k → Type 0 where
  here : {l : List (Placed k)} {d : ℕ} {T : Tree k} → Has (at d T ∷ l) d T
  there : {p : Placed k} {l : List (Placed k)} {d : ℕ} {T : Tree k} → Has l d T → Has (p ∷ l) d T

-- a size and the primitives in it
pub record Layout (k : RegionKind) : Type 0 where
  pub size : ℕ
  pub prims : List (Placed k)

-- ---- what a layout is made of

-- one primitive of w bytes
abbrev pub single : {k : RegionKind} → ℕ → Tree k → Layout k
single w T = record { size = w; prims = at 0 T ∷ [] }

-- "has no size", and "over 256 bytes": one layout for both, of a size over the limit
abbrev pub none : {k : RegionKind} → Layout k
none = record { size = suc size_limit; prims = [] }

abbrev pub empty : {k : RegionKind} → Layout k
empty = record { size = 0; prims = [] }

-- document 02, P3: an untyped region has places of one byte, without primitives. So no run stands there, no pointer's target has the same
-- primitives, and the state test asks nothing of its bytes
abbrev pub one_byte : {k : RegionKind} → Layout k
one_byte = record { size = 1; prims = [] }

abbrev pub moved : {k : RegionKind} → ℕ → Placed k → Placed k
moved n (at d T) = at (n + d) T

abbrev pub packed : {k : RegionKind} → Layout k → Layout k → Layout k
packed L M = record { size = L.size + M.size; prims = L.prims ++ map (moved L.size) M.prims }

-- "Primitives are packed": M right after L
unfoldable pub beside : {k : RegionKind} → Layout k → Layout k → Layout k
beside L M = cond (leb (L.size + M.size) size_limit) (packed L M) none

-- "An array repeats its element": n copies of L, one after the other
unfoldable pub copies_of : {k : RegionKind} → ℕ → Layout k → Layout k
copies_of zero L = empty
copies_of (suc n) L = packed L (copies_of n L)

unfoldable pub copies : {k : RegionKind} → ℕ → Layout k → Layout k
copies n L = cond (leb (n * L.size) size_limit) (copies_of n L) none

-- ---- the layout of a term

-- regions put for the variables of the primitives
abbrev pub placed_in : {j k : RegionKind} → (Region j → Region k) → Placed j → Placed k
placed_in σ (at d T) = at d (sub σ T)

unfoldable pub sub_layout : {j k : RegionKind} → (Region j → Region k) → Layout j → Layout k
sub_layout σ L = record { size = L.size; prims = map (placed_in σ) L.prims }

-- a term's layout, where the list has those of the structs: "1, 2 or 4 bytes, a pointer 4"; "A name gives its fields'
-- primitives in order, with its region arguments put for its variables"
unfoldable pub flat_with : {k : RegionKind} → List (Layout variable) → Tree k → Layout k
flat_with ls (int w) = single w (int w)
flat_with ls (ptr T r) = single 4 (ptr T r)
flat_with ls (arr n T) = copies n (flat_with ls T)
flat_with ls (struct N rs) = sub_layout (arg rs) (get_or ls N none)
flat_with ls (raw_ptr n r) = single 4 (raw_ptr n r)
flat_with ls bytes = one_byte

-- the fields one after the other, behind what L has already
unfoldable pub fields_from : List (Layout variable) → Layout variable → List (Tree variable) → Layout variable
fields_from ls L [] = L
fields_from ls L (T ∷ Ts) = fields_from ls (beside L (flat_with ls T)) Ts

unfoldable pub fields_with : List (Layout variable) → List (Tree variable) → Layout variable
fields_with ls Ts = fields_from ls empty Ts

-- "Outside pointers, a field of name N mentions only names below N; a name that breaks this, or mentions outside pointers
-- one without size, has no size": the layouts of the structs below n, each made of those before it
unfoldable pub layouts : Module → ℕ → List (Layout variable)
layouts m zero = []
layouts m (suc n) = let ls = layouts m n in ls ++ fields_with ls (m.fields n) ∷ []

unfoldable pub flat : {k : RegionKind} → Module → Tree k → Layout k
flat m T = flat_with (layouts m m.structs) T

unfoldable pub struct_flat : Module → ℕ → Layout variable
struct_flat m N = get_or (layouts m m.structs) N none

abbrev pub size : {k : RegionKind} → Module → Tree k → ℕ
size m T = (flat m T).size

-- ---- runs

-- how many primitives a layout has, and the distance of the one at position q (0 past the last)
abbrev pub count : {k : RegionKind} → Layout k → ℕ
count L = length L.prims

abbrev pub distance : {k : RegionKind} → Layout k → ℕ → ℕ
distance L q = off (get_or L.prims q (at 0 (int 0)))

-- "whose primitives equal T's from position d, as many as it has": the run of M stands at position q of L when L's
-- primitives q, q + 1, .. (as many as M has) are M's, with distances taken from the first. What has no size has no run.
pub record Run {k : RegionKind} (L : Layout k) (q : ℕ) (M : Layout k) : Type 0 where
  pub some : 0 < count M
  pub equal : take (count M) (drop q L.prims) ≡ map (moved (distance L q)) M.prims

unfoldable pub dec_run : {k : RegionKind} (L : Layout k) (q : ℕ) (M : Layout k) → Dec (Run L q M)
dec_run L q M = map_dec (λ h. record { some = h.0; equal = h.1 }) (λ r. (r.some, r.equal))
    (dec_both (dec_lt 0 (count M)) (dec_prims (take (count M) (drop q L.prims)) (map (moved (distance L q)) M.prims)))

-- the position whose distance is o, or the count where there is none: there no run stands
unfoldable pub position_at : {k : RegionKind} → Layout k → ℕ → ℕ
position_at L o = first (count L) (λ q. not (eqb (distance L q) o))

-- the run of M stands o bytes into L
abbrev pub RunAt : {k : RegionKind} → Layout k → ℕ → Layout k → Type 0
RunAt L o M = Run L (position_at L o) M

-- "has the same primitives"
pub record Same {k : RegionKind} (L M : Layout k) : Type 0 where
  pub some : 0 < count L
  pub equal : L.prims ≡ M.prims

unfoldable pub dec_same : {k : RegionKind} (L M : Layout k) → Dec (Same L M)
dec_same L M = map_dec (λ h. record { some = h.0; equal = h.1 }) (λ r. (r.some, r.equal)) (dec_both (dec_lt 0 (count L)) (dec_prims L.prims M.prims))
