-- Document 01, "The module file" (terms) and "Flat types": type terms as trees, substitution, equality, regions used.
-- A term has at most one inner term, so a tree is a chain. Assumes nothing.
use Rattle.std.specs.Prelude.{◌≡◌, List, [], map, ℕ, ◌<◌, get_or}
use Rattle.std.proofs.Common.{ap}
use Rattle.std.proofs.Math.Decide.{ℕ_discrete, dec_lt}
use Rattle.words.specs.Decide.{dec_both, map_dec, dec_list, Each, dec_each}

-- "A region variable in the code and a live region of the machine are counted separately": two kinds of number, and only a
-- substitution leads from one to the other
pub data RegionKind : Type 0 where
  variable : RegionKind
  live : RegionKind

pub record Region (k : RegionKind) : Type 0 where
  pub number : ℕ

abbrev pub Variable : Type 0
Variable = Region variable

abbrev pub LiveRegion : Type 0
LiveRegion = Region live

abbrev pub region : {k : RegionKind} → ℕ → Region k
region n = record { number = n }

unfoldable pub dec_region : {k : RegionKind} (r s : Region k) → Dec (r ≡ s)
dec_region r s = map_dec (ap region) (λ e. ap (λ r. r.number) e) (ℕ_discrete r.number s.number)

-- "integer of a = 1, 2 or 4 bytes", "pointer to earlier term a in region variable b", "array of d of earlier term a",
-- "name a with b region arguments": a struct, called `name` in the file format
pub data Tree (k : RegionKind) : Type 0 where
  int : ℕ → Tree k
  ptr : Tree k → Region k → Tree k
  arr : ℕ → Tree k → Tree k
  struct : ℕ → List (Region k) → Tree k
  -- document 02, P3: the untyped pointer, "d bytes .. in region a"; and what is no term: the type of an untyped region
  raw_ptr : ℕ → Region k → Tree k
  bytes : Tree k
  deriving Discrete as treeDiscrete

-- "1, 2 or 4 bytes, a pointer 4"
abbrev pub width : {k : RegionKind} → Tree k → ℕ
width (int w) = w
width (ptr T r) = 4
width (arr n T) = 0
width (struct N rs) = 0
width (raw_ptr n r) = 4
width bytes = 0

-- regions put for regions, under pointers too
unfoldable pub sub : {j k : RegionKind} → (Region j → Region k) → Tree j → Tree k
sub σ (int w) = int w
sub σ (ptr T r) = ptr (sub σ T) (σ r)
sub σ (arr n T) = arr n (sub σ T)
sub σ (struct N rs) = struct N (map σ rs)
sub σ (raw_ptr n r) = raw_ptr n (σ r)
sub σ bytes = bytes

-- a substitution as a list of regions, that of variable 0 first. A variable that it lacks becomes `nowhere`
abbrev pub nowhere : ℕ
nowhere = 255

abbrev pub arg : {k : RegionKind} → List (Region k) → Variable → Region k
arg rs v = get_or rs v.number (region nowhere)

-- a term's parts: its form, its number, what is inside, its arguments
abbrev pub form : {k : RegionKind} → Tree k → ℕ
form (int w) = 1
form (ptr T r) = 2
form (arr n T) = 3
form (struct N rs) = 4
form (raw_ptr n r) = 11
form bytes = 0

abbrev pub number_of : {k : RegionKind} → Tree k → ℕ
number_of (int w) = w
number_of (ptr T r) = r.number
number_of (arr n T) = n
number_of (struct N rs) = N
number_of (raw_ptr n r) = n
number_of bytes = 0

abbrev pub inner : {k : RegionKind} → Tree k → Tree k
inner (int w) = int w
inner (ptr T r) = T
inner (arr n T) = T
inner (struct N rs) = struct N rs
inner (raw_ptr n r) = raw_ptr n r
inner bytes = bytes

abbrev pub region_of : {k : RegionKind} → Tree k → Region k
region_of (int w) = region nowhere
region_of (ptr T r) = r
region_of (arr n T) = region nowhere
region_of (struct N rs) = region nowhere
region_of (raw_ptr n r) = r
region_of bytes = region nowhere

abbrev pub args : {k : RegionKind} → Tree k → List (Region k)
args (int w) = []
args (ptr T r) = []
args (arr n T) = []
args (struct N rs) = rs
args (raw_ptr n r) = []
args bytes = []

-- "Terms are equal when their forms, widths, counts, regions and inner terms are equal, under any term numbers; a name term
-- equals only one of the same name and arguments": equal trees
unfoldable pub dec_tree : {k : RegionKind} (T U : Tree k) → Dec (T ≡ U)
dec_tree T U = treeDiscrete ℕ_discrete dec_region (dec_list dec_region) T U

-- "A term uses each region written in it, under pointers too": all of them are below n
pub data Uses (n : ℕ) : Tree variable → Type 0 where
  in_int : {w : ℕ} → Uses n (int w)
  in_ptr : {T : Tree variable} {r : Variable} → r.number < n → Uses n T → Uses n (ptr T r)
  in_arr : {m : ℕ} {T : Tree variable} → Uses n T → Uses n (arr m T)
  in_struct : {N : ℕ} {rs : List Variable} → Each (λ r. r.number < n) rs → Uses n (struct N rs)
  in_raw_ptr : {m : ℕ} {r : Variable} → r.number < n → Uses n (raw_ptr m r)
  in_bytes : Uses n bytes

unfoldable pub dec_uses : (n : ℕ) (T : Tree variable) → Dec (Uses n T)
dec_uses n (int w) = yes in_int
dec_uses n (ptr T r) = map_dec (λ h. in_ptr h.0 h.1) (λ u. elim u [ in_ptr l v ↦ (l, v) ]) (dec_both (dec_lt r.number n) (dec_uses n T))
dec_uses n (arr m T) = map_dec in_arr (λ u. elim u [ in_arr v ↦ v ]) (dec_uses n T)
dec_uses n (struct N rs) = map_dec in_struct (λ u. elim u [ in_struct v ↦ v ]) (dec_each (λ r. dec_lt r.number n) rs)
dec_uses n (raw_ptr m r) = map_dec in_raw_ptr (λ u. elim u [ in_raw_ptr l ↦ l ]) (dec_lt r.number n)
dec_uses n bytes = yes in_bytes

-- "Flattening a term stops at integers and pointers, the primitives": by form
pub data Primitive {k : RegionKind} : Tree k → Type 0 where
  integer : {w : ℕ} → Primitive (int w)
  pointer : {T : Tree k} {r : Region k} → Primitive (ptr T r)
  raw_pointer : {n : ℕ} {r : Region k} → Primitive (raw_ptr n r)

unfoldable pub dec_primitive : {k : RegionKind} (T : Tree k) → Dec (Primitive T)
dec_primitive (int w) = yes integer
dec_primitive (ptr T r) = yes pointer
dec_primitive (arr n T) = no (λ w. elim w [ ])
dec_primitive (struct N rs) = no (λ w. elim w [ ])
dec_primitive (raw_ptr n r) = yes raw_pointer
dec_primitive bytes = no (λ w. elim w [ ])
