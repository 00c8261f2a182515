-- What makes an effect safe: it is not stuck, what it writes is a value of its type, and what it touches is the value that its
-- pointer's type names, whole inside one object of a live region in scope, or inside one page of a live untyped region in scope.
-- Assumes nothing.
use Rattle.std.specs.Prelude.{◌≡◌, ◌⊎◌, ℕ, suc, ◌+◌, ◌*◌, ◌^◌, ◌<◌, ◌≤◌}
use Rattle.rules.specs.Limits.{pages, page_bytes, output_bytes}
use Rattle.rules.specs.Types.{live, Tree, int, width}
use Rattle.rules.specs.Module.{Module}
use Rattle.rules.specs.Flat.{size as size_of}
use Rattle.rules.specs.State.{InRange, View}
use Rattle.rules.specs.Heap.{close, Live, type_of, heap_typing, InUntyped, Value}
use Rattle.rules.specs.Step.{Effect, assign, fetch, save, take_places, grant_page, free_place, go_to, emit, push, pop, finish, stop, stuck}
use Rattle.rules.specs.StateTest.{Listed}
use Rattle.rules.specs.SafeStep.{Touches, TouchesBytes, places_of}
use Rattle.layout.specs.Heap.{Slot}
use Rattle.state.specs.Apply.{granted}
use Rattle.soundness.specs.Preserve.{SafePush}

-- the top frame can go on to its next instruction
abbrev pub Next : Module → View → ℕ → Type 0
Next m v k = suc (v.pc k) < (m.function (v.fn k)).code_length

-- register a of frame k becomes x
pub record SafeSet (m : Module) (v : View) (k a x : ℕ) : Type 0 where
  pub register : a < (m.function (v.fn k)).registers
  pub next : Next m v k
  pub value : Value m (heap_typing m v (suc k)) (close (v.map k) ((m.function (v.fn k)).register_type a)) x

-- Address x is that of one byte of an untyped page (37, 38).
pub record UntypedByte (m : Module) (v : View) (k x w : ℕ) : Type 0 where
  pub count : ℕ
  pub region : ℕ
  pub start : ℕ
  pub offset : ℕ
  pub inside : InUntyped (heap_typing m v (suc k)) count region start
  pub below : offset < count
  pub address : x ≡ start + offset
  pub one : w ≡ 1

-- register a becomes the w bytes at address x: a primitive of its type (25); or its type is an integer, of which each byte is a value (37)
pub record SafeFetch (m : Module) (v : View) (k b a x w : ℕ) : Type 0 where
  pub register : a < (m.function (v.fn k)).registers
  pub next : Next m v k
  pub from : Slot m (heap_typing m v (suc k)) x (close (v.map k) ((m.function (v.fn k)).register_type a)) ⊎ ((close (v.map k) ((m.function (v.fn k)).register_type a) ≡ int w) × UntypedByte m v k x w)
  pub bytes : w ≡ width (close (v.map k) ((m.function (v.fn k)).register_type a))
  pub touches : Touches m v k b x w ⊎ TouchesBytes m v k b x w

-- a primitive becomes a value of its type (26); a byte of an untyped page becomes any (38)
pub record SavesPrimitive (m : Module) (v : View) (k x w y : ℕ) : Type 0 where
  pub type : Tree live
  pub slot : Slot m (heap_typing m v (suc k)) x type
  pub bytes : w ≡ width type
  pub value : Value m (heap_typing m v (suc k)) type y

pub record SafeSave (m : Module) (v : View) (k b x w y : ℕ) : Type 0 where
  pub next : Next m v k
  pub what : SavesPrimitive m v k x w y ⊎ UntypedByte m v k x w
  pub touches : Touches m v k b x w ⊎ TouchesBytes m v k b x w

-- c unused places of n bytes each, in a row in a page, as many as the register's type asks for
pub record SafeTake (m : Module) (v : View) (k p j c n a : ℕ) : Type 0 where
  pub region : ℕ
  pub inside : p < pages
  pub own : v.owner p ≡ suc region
  pub size : n ≡ size_of m (type_of m v.fn v.map (suc k) region)
  pub places : j + c ≤ page_bytes
  pub fits : n * j + n * c ≤ page_bytes
  pub unused : (i : ℕ) → i < c → v.mark p (j + i) ≡ 0
  pub count : c ≡ places_of ((m.function (v.fn k)).register_type a)
  pub register : SafeSet m v k a (page_bytes * p + n * j)

pub record SafeGrant (m : Module) (v : View) (k p r c a : ℕ) : Type 0 where
  pub in_range : InRange v.range p
  pub inside : p < pages
  pub unowned : v.owner p ≡ 0
  pub alive : Live m v.fn v.map (suc k) (suc r)
  pub places : c ≤ page_bytes
  pub fits : size_of m (type_of m v.fn v.map (suc k) r) * c ≤ page_bytes
  pub count : c ≡ places_of ((m.function (v.fn k)).register_type a)
  pub register : SafeSet m (granted p r v) k a (page_bytes * p)

pub record SafeFree (m : Module) (v : View) (k p j : ℕ) : Type 0 where
  pub next : Next m v k
  pub inside : p < pages
  pub place : j < page_bytes

pub record SafePop (m : Module) (v : View) (k c a x : ℕ) : Type 0 where
  pub caller : k ≡ suc c
  pub register : a < (m.function (v.fn c)).registers
  pub next : suc (v.pc c) < (m.function (v.fn c)).code_length
  pub value : Value m (heap_typing m v (suc k)) (close (v.map c) ((m.function (v.fn c)).register_type a)) x

abbrev pub Safe : Module → View → ℕ → Effect → Type 0
Safe m v k (assign a x) = SafeSet m v k a x
Safe m v k (fetch b a x w) = SafeFetch m v k b a x w
Safe m v k (save b x w y) = SafeSave m v k b x w y
Safe m v k (take_places p j c n a) = SafeTake m v k p j c n a
Safe m v k (grant_page p r c a) = SafeGrant m v k p r c a
Safe m v k (free_place p j) = SafeFree m v k p j
Safe m v k (go_to d) = d < (m.function (v.fn k)).code_length
Safe m v k (emit x) = Next m v k × (v.output_count < output_bytes) × (x < 256)
Safe m v k (push g μ ρ) = SafePush m v k g μ ρ
Safe m v k (pop c a x) = SafePop m v k c a x
Safe m v k (finish x) = (k ≡ 0) × (x < 256 ^ 4)
Safe m v k (stop n) = Listed n
Safe m v k stuck = ⊥
