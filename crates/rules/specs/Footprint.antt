-- The page bytes of an effect, said once: which it loads, stores and clears, through which register, and how many pages it grants. What
-- is counted and claimed of page bytes and granted pages (SafeStep, Calls) follows from this table. Assumes nothing.
use Rattle.std.specs.Prelude.{ℕ, ◌+◌, ◌*◌, ◌<◌, ◌≤◌}
use Rattle.rules.specs.Limits.{page_bytes}
use Rattle.rules.specs.Step.{Effect, assign, fetch, save, take_places, grant_page, free_place, go_to, emit, push, pop, finish, stop, stuck}

-- So many bytes of the pages from an address on.
pub record Span : Type 0 where
  pub from : ℕ
  pub bytes : ℕ

abbrev pub span : ℕ → ℕ → Span
span x n = record { from = x; bytes = n }

abbrev pub no_bytes : Span
no_bytes = span 0 0

-- address i is one of a span's
abbrev pub Within : Span → ℕ → Type 0
Within s i = (s.from ≤ i) × (i < s.from + s.bytes)

-- The bytes that a load reads and those that a store writes, through the pointer in register `through`; the bytes that become zero, as
-- an object is handed out or a page is granted; how many pages are granted.
pub record Footprint : Type 0 where
  pub through : ℕ
  pub loads : Span
  pub stores : Span
  pub clears : Span
  pub grants : ℕ

-- no page byte; w bytes at x, loaded or stored through register b; n bytes at x, cleared
abbrev pub untouched : Footprint
untouched = record { through = 0; loads = no_bytes; stores = no_bytes; clears = no_bytes; grants = 0 }

abbrev pub loading : (b x w : ℕ) → Footprint
loading b x w = record { through = b; loads = span x w; stores = no_bytes; clears = no_bytes; grants = 0 }

abbrev pub storing : (b x w : ℕ) → Footprint
storing b x w = record { through = b; loads = no_bytes; stores = span x w; clears = no_bytes; grants = 0 }

abbrev pub clearing : (x n grants : ℕ) → Footprint
clearing x n grants = record { through = 0; loads = no_bytes; stores = no_bytes; clears = span x n; grants = grants }

-- "A page is granted when a new object takes it unowned"
abbrev pub footprint : Effect → Footprint
footprint (assign a x) = untouched
footprint (fetch b a x w) = loading b x w
footprint (save b x w y) = storing b x w
footprint (take_places p j c n a) = clearing (page_bytes * p + n * j) (n * c) 0
footprint (grant_page p r c a) = clearing (page_bytes * p) page_bytes 1
footprint (free_place p j) = untouched
footprint (go_to d) = untouched
footprint (emit x) = untouched
footprint (push g μ ρ) = untouched
footprint (pop c a x) = untouched
footprint (finish x) = untouched
footprint (stop n) = untouched
footprint stuck = untouched
