-- Which effect it is that loads, stores or clears a page byte: the footprint read backwards. For proofs only. Assumes nothing.
use Rattle.std.specs.Prelude.{◌≡◌, refl, ℕ, ◌+◌, ◌*◌, ◌<◌, ◌≤◌}
use Rattle.std.proofs.Common.{arith}
use Rattle.rules.specs.Limits.{page_bytes}
use Rattle.rules.specs.Step.{Effect, assign, fetch, save, take_places, grant_page, free_place, go_to, emit, push, pop, finish, stop, stuck}
use Rattle.rules.specs.Footprint.{span, footprint, Within}

-- a load that reads address i
pub record Loads (e : Effect) (i : ℕ) : Type 0 where
  pub through : ℕ
  pub register : ℕ
  pub address : ℕ
  pub bytes : ℕ
  pub is : e ≡ fetch through register address bytes
  pub low : address ≤ i
  pub high : i < address + bytes

pub load_of : (e : Effect) (i : ℕ) → Within (footprint e).loads i → Loads e i
load_of (assign a x) i h = absurd (omega (arith, h))
load_of (fetch b a x w) i h = record { through = b; register = a; address = x; bytes = w; is = refl; low = h.0; high = h.1 }
load_of (save b x w y) i h = absurd (omega (arith, h))
load_of (take_places p j c n a) i h = absurd (omega (arith, h))
load_of (grant_page p r c a) i h = absurd (omega (arith, h))
load_of (free_place p j) i h = absurd (omega (arith, h))
load_of (go_to d) i h = absurd (omega (arith, h))
load_of (emit x) i h = absurd (omega (arith, h))
load_of (push g μ ρ) i h = absurd (omega (arith, h))
load_of (pop c a x) i h = absurd (omega (arith, h))
load_of (finish x) i h = absurd (omega (arith, h))
load_of (stop n) i h = absurd (omega (arith, h))
load_of stuck i h = absurd (omega (arith, h))

-- a store that writes address i
pub record Stores (e : Effect) (i : ℕ) : Type 0 where
  pub through : ℕ
  pub address : ℕ
  pub bytes : ℕ
  pub number : ℕ
  pub is : e ≡ save through address bytes number
  pub low : address ≤ i
  pub high : i < address + bytes

pub store_of : (e : Effect) (i : ℕ) → Within (footprint e).stores i → Stores e i
store_of (assign a x) i h = absurd (omega (arith, h))
store_of (fetch b a x w) i h = absurd (omega (arith, h))
store_of (save b x w y) i h = record { through = b; address = x; bytes = w; number = y; is = refl; low = h.0; high = h.1 }
store_of (take_places p j c n a) i h = absurd (omega (arith, h))
store_of (grant_page p r c a) i h = absurd (omega (arith, h))
store_of (free_place p j) i h = absurd (omega (arith, h))
store_of (go_to d) i h = absurd (omega (arith, h))
store_of (emit x) i h = absurd (omega (arith, h))
store_of (push g μ ρ) i h = absurd (omega (arith, h))
store_of (pop c a x) i h = absurd (omega (arith, h))
store_of (finish x) i h = absurd (omega (arith, h))
store_of (stop n) i h = absurd (omega (arith, h))
store_of stuck i h = absurd (omega (arith, h))

-- places handed out, or a page granted, that have address i
pub data Clears (e : Effect) (i : ℕ) : Type 0 where
  by_take : (p j c n a : ℕ) → e ≡ take_places p j c n a → Within (span (page_bytes * p + n * j) (n * c)) i → Clears e i
  by_grant : (p r c a : ℕ) → e ≡ grant_page p r c a → Within (span (page_bytes * p) page_bytes) i → Clears e i

pub clear_of : (e : Effect) (i : ℕ) → Within (footprint e).clears i → Clears e i
clear_of (assign a x) i h = absurd (omega (arith, h))
clear_of (fetch b a x w) i h = absurd (omega (arith, h))
clear_of (save b x w y) i h = absurd (omega (arith, h))
clear_of (take_places p j c n a) i h = by_take p j c n a refl h
clear_of (grant_page p r c a) i h = by_grant p r c a refl h
clear_of (free_place p j) i h = absurd (omega (arith, h))
clear_of (go_to d) i h = absurd (omega (arith, h))
clear_of (emit x) i h = absurd (omega (arith, h))
clear_of (push g μ ρ) i h = absurd (omega (arith, h))
clear_of (pop c a x) i h = absurd (omega (arith, h))
clear_of (finish x) i h = absurd (omega (arith, h))
clear_of (stop n) i h = absurd (omega (arith, h))
clear_of stuck i h = absurd (omega (arith, h))
