-- Document 01, "State test". Each clause is a fact about what the accessors give, in the paper's order and words, and is decided:
-- `dec_passes` computes, and by its type it says just what `Passes` says. The layout's own clauses (docs/STATE.md) stand at the
-- end. Assumes nothing.
use Rattle.std.specs.Prelude.{◌≡◌, ◌≢◌, ℕ, zero, suc, ◌+◌, ◌*◌, ◌-◌, ◌<◌, ◌≤◌, length}
use Rattle.std.proofs.Common.{sym, ap, ◌∙◌, inl, inr, arith}
use Rattle.std.proofs.Math.Decide.{ℕ_discrete, dec_lt, dec_le}
use Rattle.words.specs.Bytes.{Bytes, byte_at}
use Rattle.rules.specs.Limits.{pages, page_bytes, most_frames, most_registers, most_regions, live_regions, output_bytes, state_bytes, header_end, owners_at, stack_end, spare_in, memory_at, frame_bytes, zero_address, output_full}
use Rattle.words.specs.Decide.{map_dec, dec_both, dec_either, dec_imp, dec_not, dec_all, Each, dec_each}
use Rattle.rules.specs.Types.{live, region, width, arg}
use Rattle.rules.specs.Module.{Module, regions}
use Rattle.rules.specs.Flat.{Placed, off, type, Layout, flat, size}
use Rattle.rules.specs.State.{low_page, end_page, InRange, View, view, memory_number, frame_place, SpareZero}
use Rattle.rules.specs.Heap.{close, Live, dec_live, type_of, heap_typing, Value, dec_value}
use Rattle.rules.specs.Step.{StandsAtCall, dec_stands_at_call}

-- ---- "status, result and output count are in range"; frames are "1-16, none once ended"

-- a listed reason to stop
pub record Listed (n : ℕ) : Type 0 where
  pub low : zero_address ≤ n
  pub high : n ≤ output_full

-- the result is 0 unless ended
pub data StatusOk (v : View) : Type 0 where
  running : v.status ≡ 0 → 0 < v.frames → v.result ≡ 0 → StatusOk v
  stopped : Listed v.status → 0 < v.frames → v.result ≡ 0 → StatusOk v
  ended : v.status ≡ 1 → v.frames ≡ 0 → StatusOk v

-- ---- "frames .. each stand at an instruction of their function, function 0 lowest, and chain by the calls they stand at; each
-- frame's map is the call's regions through the caller's map, then local regions, all different and live in no frame below"

-- frame k stands at a call of the function of frame k + 1, whose map is the call's regions through frame k's
pub record Chained (m : Module) (fn pc : ℕ → ℕ) (map : ℕ → ℕ → ℕ) (k : ℕ) : Type 0 where
  pub caller : StandsAtCall m fn pc k
  pub callee : caller.site.callee ≡ fn (suc k)
  pub through : (i : ℕ) → i < (m.function (fn (suc k))).region_params → map (suc k) i ≡ map k (arg caller.site.regions (region i)).number

-- n frames. The last clause is the layout's own: an owner is one byte, 1 + live region
pub record FramesOk (m : Module) (fn pc : ℕ → ℕ) (map : ℕ → ℕ → ℕ) (n : ℕ) : Type 0 where
  pub few : n ≤ most_frames
  pub known : (k : ℕ) → k < n → fn k < m.functions
  pub stands : (k : ℕ) → k < n → pc k < (m.function (fn k)).code_length
  pub lowest : 0 < n → fn 0 ≡ 0
  pub chain : (k : ℕ) → suc k < n → Chained m fn pc map k
  pub different : (k : ℕ) → k < n → (i : ℕ) → i < (m.function (fn k)).locals → (j : ℕ) → j < (m.function (fn k)).locals → i ≢ j
      → map k ((m.function (fn k)).region_params + i) ≢ map k ((m.function (fn k)).region_params + j)
  pub fresh : (k : ℕ) → k < n → (i : ℕ) → i < (m.function (fn k)).locals → ¬ Live m fn map k (suc (map k ((m.function (fn k)).region_params + i)))
  pub numbered : (k : ℕ) → k < n → (i : ℕ) → i < (m.function (fn k)).locals → map k ((m.function (fn k)).region_params + i) < live_regions

-- ---- "page 0 is unowned; owners are live; unowned pages have no used marks; each register and each primitive in each owned page
-- is a value of its type"

-- primitive q of the object at place j of page p, whose objects have layout L, is a value of its type
abbrev pub PrimitiveOk : Module → View → (n p : ℕ) (L : Layout live) (j : ℕ) → Placed live → Type 0
PrimitiveOk m v n p L j q = Value m (heap_typing m v n) (type q) (memory_number v.memory (page_bytes * p + (L.size * j + off q)) (width (type q)))

-- each primitive of each object, used or free, of page p, whose owner is x. Document 02, P3: "in untyped pages the state test takes all bytes":
-- no primitive is there
abbrev pub PageOk : Module → View → (n p x : ℕ) → Type 0
PageOk m v n p zero = Unit {0}
PageOk m v n p (suc r) =
    (j : ℕ) → j < page_bytes → size m (type_of m v.fn v.map n r) * suc j ≤ page_bytes
    → Each (PrimitiveOk m v n p (flat m (type_of m v.fn v.map n r)) j) (flat m (type_of m v.fn v.map n r)).prims

-- owned pages are in the state's range: page 0 is in no range, and all others are in that of document 01's machine
pub record ContentsOk (m : Module) (v : View) (n : ℕ) : Type 0 where
  pub in_range : (p : ℕ) → p < pages → 0 < v.owner p → InRange v.range p
  pub owners : (p : ℕ) → p < pages → 0 < v.owner p → Live m v.fn v.map n (v.owner p)
  pub marks : (p : ℕ) → p < pages → (j : ℕ) → j < page_bytes → v.owner p ≡ 0 → v.mark p j ≡ 0
  pub registers : (k : ℕ) → k < n → (a : ℕ) → a < (m.function (v.fn k)).registers
      → Value m (heap_typing m v n) (close (v.map k) ((m.function (v.fn k)).register_type a)) (v.reg k a)
  pub primitives : (p : ℕ) → p < pages → PageOk m v n p (v.owner p)

-- ---- "spare bytes zero", as the layout has them: frames not in use, registers and map entries that the function does not have,
-- marks beyond the last place of a page

abbrev pub MarksEnd : Module → View → (n p x : ℕ) → Type 0
MarksEnd m v n p zero = Unit {0}
MarksEnd m v n p (suc r) = (j : ℕ) → j < page_bytes → page_bytes < size m (type_of m v.fn v.map n r) * suc j → v.mark p j ≡ 0

pub record SpareOk (m : Module) (v : View) (n : ℕ) : Type 0 where
  pub functions : (k : ℕ) → k < most_frames → n ≤ k → v.fn k ≡ 0
  pub instructions : (k : ℕ) → k < most_frames → n ≤ k → v.pc k ≡ 0
  pub frame_registers : (k : ℕ) → k < most_frames → n ≤ k → (a : ℕ) → a < most_registers → v.reg k a ≡ 0
  pub frame_maps : (k : ℕ) → k < most_frames → n ≤ k → (i : ℕ) → i < most_regions → v.map k i ≡ 0
  pub registers : (k : ℕ) → k < n → (a : ℕ) → a < most_registers → (m.function (v.fn k)).registers ≤ a → v.reg k a ≡ 0
  pub maps : (k : ℕ) → k < n → (i : ℕ) → i < most_regions → regions (m.function (v.fn k)) ≤ i → v.map k i ≡ 0
  pub marks : (p : ℕ) → p < pages → MarksEnd m v n p (v.owner p)

-- ---- THE STATE TEST, of bytes, for module m and a machine with the page range that these say. That it is the machine which is called is
-- tested beside it (`ranged`, Host).
pub record Passes (m : Module) (s : Bytes) : Type 0 where
  pub size : length s ≡ state_bytes
  pub status : StatusOk (view s)
  pub output : (view s).output_count ≤ output_bytes
  pub frames : FramesOk m (view s).fn (view s).pc (view s).map (view s).frames
  pub contents : ContentsOk m (view s) (view s).frames
  pub spare : SpareOk m (view s) (view s).frames
  pub unread : SpareZero s

-- ---- the clauses are decided

unfoldable pub dec_listed : (n : ℕ) → Dec (Listed n)
dec_listed n = map_dec (λ h. record { low = h.0; high = h.1 }) (λ l. (l.low, l.high)) (dec_both (dec_le zero_address n) (dec_le n output_full))

unfoldable pub dec_status : (v : View) → Dec (StatusOk v)
dec_status v = map_dec
    (λ h. elim h [ inl a ↦ running a.0 a.1.0 a.1.1 | inr (inl a) ↦ stopped a.0 a.1.0 a.1.1 | inr (inr a) ↦ ended a.0 a.1 ])
    (λ s. elim s [ running a b c ↦ inl (a, (b, c)) | stopped a b c ↦ inr (inl (a, (b, c))) | ended a b ↦ inr (inr (a, b)) ])
    (dec_either (dec_both (ℕ_discrete v.status 0) (dec_both (dec_lt 0 v.frames) (ℕ_discrete v.result 0)))
    (dec_either (dec_both (dec_listed v.status) (dec_both (dec_lt 0 v.frames) (ℕ_discrete v.result 0)))
    (dec_both (ℕ_discrete v.status 1) (ℕ_discrete v.frames 0))))

-- two readings of one instruction as a call are the same
pub site_unique : {m : Module} {fn pc : ℕ → ℕ} {k : ℕ} (h l : StandsAtCall m fn pc k)
    → (h.site.callee ≡ l.site.callee) × (h.site.regions ≡ l.site.regions)
site_unique h l = (cc (h.site.is, l.site.is), cc (h.site.is, l.site.is))

unfoldable pub dec_chained : (m : Module) (fn pc : ℕ → ℕ) (map : ℕ → ℕ → ℕ) (k : ℕ) → Dec (Chained m fn pc map k)
dec_chained m fn pc map k = elim (dec_stands_at_call m fn pc k) [
  | yes h ↦ map_dec (λ p. record { caller = h; callee = p.0; through = p.1 })
      (λ l. ((site_unique h l.caller).0 ∙ l.callee, rw (site_unique h l.caller).1 l.through))
      (dec_both (ℕ_discrete h.site.callee (fn (suc k)))
      (dec_all (λ i. ℕ_discrete (map (suc k) i) (map k (arg h.site.regions (region i)).number)) (m.function (fn (suc k))).region_params))
  | no n ↦ no (λ l. n l.caller)
]

unfoldable pub dec_frames : (m : Module) (fn pc : ℕ → ℕ) (map : ℕ → ℕ → ℕ) (n : ℕ) → Dec (FramesOk m fn pc map n)
dec_frames m fn pc map n = map_dec
    (λ h. record { few = h.0.0; known = h.0.1.0; stands = h.0.1.1; lowest = h.1.0.0; chain = λ k l. h.1.0.1 k (omega arith) l; different = h.1.1.0; fresh = h.1.1.1.0; numbered = h.1.1.1.1 })
    (λ s. ((s.few, (s.known, s.stands)), ((s.lowest, λ k l o. s.chain k o), (s.different, (s.fresh, s.numbered)))))
    (dec_both (dec_both (dec_le n most_frames) (dec_both (dec_all (λ k. dec_lt (fn k) m.functions) n) (dec_all (λ k. dec_lt (pc k) (m.function (fn k)).code_length) n)))
    (dec_both (dec_both (dec_imp (dec_lt 0 n) (ℕ_discrete (fn 0) 0)) (dec_all (λ k. dec_imp (dec_lt (suc k) n) (dec_chained m fn pc map k)) n))
    (dec_both
    (dec_all (λ k. dec_all (λ i. dec_all (λ j. dec_imp (dec_not (ℕ_discrete i j)) (dec_not (ℕ_discrete (map k ((m.function (fn k)).region_params + i)) (map k ((m.function (fn k)).region_params + j)))))
    (m.function (fn k)).locals) (m.function (fn k)).locals) n)
    (dec_both (dec_all (λ k. dec_all (λ i. dec_not (dec_live m fn map k (suc (map k ((m.function (fn k)).region_params + i))))) (m.function (fn k)).locals) n)
    (dec_all (λ k. dec_all (λ i. dec_lt (map k ((m.function (fn k)).region_params + i)) live_regions) (m.function (fn k)).locals) n)))))

unfoldable pub dec_page : (m : Module) (v : View) (n p x : ℕ) → Dec (PageOk m v n p x)
dec_page m v n p zero = yes tt
dec_page m v n p (suc r) =
    let L = flat m (type_of m v.fn v.map n r) in
    dec_all (λ j. dec_imp (dec_le (L.size * suc j) page_bytes)
    (dec_each (λ q. dec_value m (heap_typing m v n) (type q) (memory_number v.memory (page_bytes * p + (L.size * j + off q)) (width (type q)))) L.prims)) page_bytes

unfoldable pub dec_contents : (m : Module) (v : View) (n : ℕ) → Dec (ContentsOk m v n)
dec_contents m v n = map_dec
    (λ h. record { in_range = h.0.0; owners = h.0.1.0; marks = h.0.1.1; registers = h.1.0; primitives = h.1.1 })
    (λ c. ((c.in_range, (c.owners, c.marks)), (c.registers, c.primitives)))
    (dec_both (dec_both (dec_all (λ p. dec_imp (dec_lt 0 (v.owner p)) (dec_both (dec_le (low_page v.range) p) (dec_lt p (end_page v.range)))) pages) (dec_both (dec_all (λ p. dec_imp (dec_lt 0 (v.owner p)) (dec_live m v.fn v.map n (v.owner p))) pages)
    (dec_all (λ p. dec_all (λ j. dec_imp (ℕ_discrete (v.owner p) 0) (ℕ_discrete (v.mark p j) 0)) page_bytes) pages)))
    (dec_both (dec_all (λ k. dec_all (λ a. dec_value m (heap_typing m v n) (close (v.map k) ((m.function (v.fn k)).register_type a)) (v.reg k a)) (m.function (v.fn k)).registers) n)
    (dec_all (λ p. dec_page m v n p (v.owner p)) pages)))

unfoldable pub dec_marks_end : (m : Module) (v : View) (n p x : ℕ) → Dec (MarksEnd m v n p x)
dec_marks_end m v n p zero = yes tt
dec_marks_end m v n p (suc r) = dec_all (λ j. dec_imp (dec_lt page_bytes (size m (type_of m v.fn v.map n r) * suc j)) (ℕ_discrete (v.mark p j) 0)) page_bytes

unfoldable pub dec_spare : (m : Module) (v : View) (n : ℕ) → Dec (SpareOk m v n)
dec_spare m v n = map_dec
    (λ h. record { functions = h.0.0; instructions = h.0.1.0; frame_registers = h.0.1.1.0; frame_maps = h.0.1.1.1; registers = h.1.0; maps = h.1.1.0; marks = h.1.1.1 })
    (λ c. ((c.functions, (c.instructions, (c.frame_registers, c.frame_maps))), (c.registers, (c.maps, c.marks))))
    (dec_both (dec_both (dec_all (λ k. dec_imp (dec_le n k) (ℕ_discrete (v.fn k) 0)) most_frames) (dec_both (dec_all (λ k. dec_imp (dec_le n k) (ℕ_discrete (v.pc k) 0)) most_frames)
    (dec_both (dec_all (λ k. dec_imp (dec_le n k) (dec_all (λ a. ℕ_discrete (v.reg k a) 0) most_registers)) most_frames)
    (dec_all (λ k. dec_imp (dec_le n k) (dec_all (λ i. ℕ_discrete (v.map k i) 0) most_regions)) most_frames))))
    (dec_both (dec_all (λ k. dec_all (λ a. dec_imp (dec_le (m.function (v.fn k)).registers a) (ℕ_discrete (v.reg k a) 0)) most_registers) n)
    (dec_both (dec_all (λ k. dec_all (λ i. dec_imp (dec_le (regions (m.function (v.fn k))) i) (ℕ_discrete (v.map k i) 0)) most_regions) n)
    (dec_all (λ p. dec_marks_end m v n p (v.owner p)) pages))))

-- the bytes that no accessor reads, area by area
unfoldable pub dec_unread : (s : Bytes) → Dec (SpareZero s)
dec_unread s = map_dec
    (λ h i c. elim c [
      | inl c ↦ let e : header_end + (i - header_end) ≡ i = omega (arith, c) in ap (byte_at s) (sym e) ∙ h.0 (i - header_end) (omega (arith, c))
      | inr (inl c) ↦ let e : stack_end + (i - stack_end) ≡ i = omega (arith, c) in ap (byte_at s) (sym e) ∙ h.1.0 (i - stack_end) (omega (arith, c))
      | inr (inr c) ↦
          let k : ℕ = c.frame in
          let e : frame_place k + spare_in + (i - (frame_place k + spare_in)) ≡ i = omega (arith, c.low) in
          ap (byte_at s) (sym e) ∙ h.1.1 k c.below (i - (frame_place k + spare_in)) (omega (arith, c.low, c.high))
    ])
    (λ z. (
      λ i h. z (header_end + i) (inl (omega arith, omega arith)),
      (
        λ i h. z (stack_end + i) (inr (inl (omega arith, omega arith))),
        λ k l o h. z (frame_place k + spare_in + o) (inr (inr (record { frame = k; below = l; low = omega arith; high = omega arith }))),
      ),
    ))
    (dec_both (dec_all (λ i. ℕ_discrete (byte_at s (header_end + i)) 0) (owners_at - header_end))
    (dec_both (dec_all (λ i. ℕ_discrete (byte_at s (stack_end + i)) 0) (memory_at - stack_end))
    (dec_all (λ k. dec_all (λ o. ℕ_discrete (byte_at s (frame_place k + spare_in + o)) 0) (frame_bytes - spare_in)) most_frames)))

unfoldable pub dec_passes : (m : Module) (s : Bytes) → Dec (Passes m s)
dec_passes m s = map_dec
    (λ h. record { size = h.0.0; status = h.0.1.0; output = h.0.1.1; frames = h.1.0; contents = h.1.1.0; spare = h.1.1.1.0; unread = h.1.1.1.1 })
    (λ p. ((p.size, (p.status, p.output)), (p.frames, (p.contents, (p.spare, p.unread)))))
    (dec_both (dec_both (ℕ_discrete (length s) state_bytes) (dec_both (dec_status (view s)) (dec_le (view s).output_count output_bytes)))
    (dec_both (dec_frames m (view s).fn (view s).pc (view s).map (view s).frames)
    (dec_both (dec_contents m (view s) (view s).frames) (dec_both (dec_spare m (view s) (view s).frames) (dec_unread s)))))
