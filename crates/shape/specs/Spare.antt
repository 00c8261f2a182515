-- Spare bytes, frame by frame: what a function does not have, and frames not in use, as zero bytes. Assumes nothing.
use Rattle.std.specs.Prelude.{◌≡◌, Bool, ◌&&◌, ℕ, ◌+◌, ◌-◌, ◌/◌, ◌<◌, ◌≤◌}
use Rattle.std.proofs.Common.{sym, ap, ◌∙◌, inl, inr}
use Rattle.std.proofs.Math.Logic.{⊎_elim}
use Rattle.std.proofs.Math.Decide.{dec_lt}
use native.Mathlib.Omega.{arith}
use Rattle.words.specs.Bytes.{Bytes, byte_at}
use Rattle.words.specs.ByteLaws.{number_zero}
use Rattle.words.specs.Choose.{lt_or_le}
use Rattle.rules.specs.Limits.{most_frames, most_registers, most_regions, header_end, owners_at, stack_end, spare_in, memory_at, frame_bytes}
use Rattle.rules.specs.Module.{regions}
use Rattle.rules.specs.Decode.{module_of}
use Rattle.rules.specs.State.{view, frame_place, register_place, map_place, function_place, instruction_place, frame_function, frame_instruction, frame_register, frame_map, SpareZero}
use Rattle.rules.specs.declared.Record.{Record}
use Rattle.state.specs.Reads.{function_is, instruction_is, register_is, map_is, register_past, map_past}
use Rattle.stack.specs.Tells.{Tells, tells_map, tells_and}
use Rattle.stack.specs.Facts.{function_at, head_at, registers_at_law, regions_at}
use Rattle.shape.specs.Zeros.{Zero, byte_none}

-- ---- the parts of a frame

-- the registers from c on, the map's entries from m on, the last bytes
abbrev pub NoRegisters : Bytes → ℕ → ℕ → Type 0
NoRegisters s k c = (a : ℕ) → a < most_registers → c ≤ a → frame_register s k a ≡ 0

abbrev pub NoEntries : Bytes → ℕ → ℕ → Type 0
NoEntries s k m = (i : ℕ) → i < most_regions → m ≤ i → frame_map s k i ≡ 0

abbrev pub NoLast : Bytes → ℕ → Type 0
NoLast s k = (o : ℕ) → o < frame_bytes - spare_in → byte_at s (frame_place k + spare_in + o) ≡ 0

module _ (s : Bytes) (k : ℕ) (inside : k < most_frames) where
  registers_to : (c : ℕ) → Zero s (register_place k c) (map_place k 0) → NoRegisters s k c
  registers_to c w a h l =
      register_is s {k = k} {a = a} inside h ∙ number_zero 4 s (register_place k a) (λ j lo hi. (w j (omega arith)).is (omega arith))

  registers_back : (c : ℕ) → NoRegisters s k c → (i : ℕ) → register_place k c ≤ i → i < map_place k 0 → byte_at s i ≡ 0
  registers_back c w i lo hi =
      let a : ℕ = (i - frame_place k) / 4 in
      let h : a < most_registers = omega arith in
      byte_none 4 s (register_place k a) i (sym (register_is s {k = k} {a = a} inside h) ∙ w a h (omega arith)) (omega arith) (omega arith)

  entries_to : (m : ℕ) → Zero s (map_place k m) (function_place k) → NoEntries s k m
  entries_to m w i h l = map_is s {k = k} {i = i} inside h ∙ (w (map_place k i) (omega arith)).is (omega arith)

  entries_back : (m : ℕ) → NoEntries s k m → (i : ℕ) → map_place k m ≤ i → i < function_place k → byte_at s i ≡ 0
  entries_back m w i lo hi =
      let j : ℕ = i - map_place k 0 in
      let h : j < most_regions = omega arith in
      let e : map_place k j ≡ i = omega arith in
      ap (byte_at s) (sym e) ∙ sym (map_is s {k = k} {i = j} inside h) ∙ w j h (omega arith)

  last_to : Zero s (frame_place k + spare_in) (frame_place k + frame_bytes) → NoLast s k
  last_to w o h = (w (frame_place k + spare_in + o) (omega arith)).is (omega arith)

  last_back : NoLast s k → (i : ℕ) → frame_place k + spare_in ≤ i → i < frame_place k + frame_bytes → byte_at s i ≡ 0
  last_back w i lo hi =
      let e : frame_place k + spare_in + (i - (frame_place k + spare_in)) ≡ i = omega arith in
      ap (byte_at s) (sym e) ∙ w (i - (frame_place k + spare_in)) (omega arith)

-- ---- a frame in use

pub record UsedSpare (f s : Bytes) (k : ℕ) : Type 0 where
  pub registers : NoRegisters s k (function_at f s k).registers
  pub maps : NoEntries s k (regions (function_at f s k))
  pub last : NoLast s k

pub used_by : {f s : Bytes} {k c m at from upto begin end : ℕ} {h : Record} {x y z : Bool} → k < most_frames → h ≡ head_at f s k → c ≡ h.c → m ≡ h.a + h.b
    → at ≡ frame_place k → from ≡ register_place k c → upto ≡ map_place k 0 → begin ≡ map_place k m → end ≡ function_place k
    → Tells x (Zero s from upto) → Tells y (Zero s begin end) → Tells z (Zero s (at + spare_in) (at + frame_bytes)) → Tells (x && (y && z)) (UsedSpare f s k)
used_by {f} {s} {k} {c} {m} {at} {from} {upto} {begin} {end} {h} inside eh ec em ea e1 e2 e3 e4 t u v =
    let qc : c ≡ (function_at f s k).registers = ec ∙ ap (λ (r : Record). r.c) eh ∙ sym (registers_at_law f s k) in
    let qm : m ≡ regions (function_at f s k) = em ∙ ap (λ (r : Record). r.a + r.b) eh ∙ sym (regions_at f s k) in
    tells_map
    (λ p.
    record {
      registers = rw (← qc) (registers_to s k inside c (rw (e1, e2) at p.0));
      maps = rw (← qm) (entries_to s k inside m (rw (e3, e4) at p.1.0));
      last = last_to s k inside (rw ea at p.1.1);
    })
    (λ w. (
      λ i l. record { is = λ lo. registers_back s k inside c (rw qc w.registers) i (rw e1 at lo) (rw e2 at l) },
      (
        λ i l. record { is = λ lo. entries_back s k inside m (rw qm w.maps) i (rw e3 at lo) (rw e4 at l) },
        λ i l. record { is = λ lo. last_back s k inside w.last i (rw ea at lo) (rw ea at l) },
      ),
    ))
    (tells_and t (tells_and u v))

-- ---- a frame not in use

pub record Unused (s : Bytes) (k : ℕ) : Type 0 where
  pub function : frame_function s k ≡ 0
  pub instruction : frame_instruction s k ≡ 0
  pub registers : NoRegisters s k 0
  pub maps : NoEntries s k 0
  pub last : NoLast s k

module _ (s : Bytes) (k : ℕ) (inside : k < most_frames) where
  part : (from to a e : ℕ) → from ≤ a → e ≤ to → Zero s from to → Zero s a e
  part from to a e h l w i b = record { is = λ lo. (w i (omega arith)).is (omega arith) }

  unused_to : Zero s (frame_place k) (frame_place k + frame_bytes) → Unused s k
  unused_to w =
      record {
        function = function_is s {k = k} inside ∙ (w (function_place k) (omega arith)).is (omega arith);
        instruction = instruction_is s {k = k} inside ∙ number_zero 2 s (instruction_place k) (λ j lo hi. (w j (omega arith)).is (omega arith));
        registers = registers_to s k inside 0 (part (frame_place k) (frame_place k + frame_bytes) (register_place k 0) (map_place k 0) (omega arith) (omega arith) w);
        maps = entries_to s k inside 0 (part (frame_place k) (frame_place k + frame_bytes) (map_place k 0) (function_place k) (omega arith) (omega arith) w);
        last = last_to s k inside (part (frame_place k) (frame_place k + frame_bytes) (frame_place k + spare_in) (frame_place k + frame_bytes) (omega arith) (omega arith) w);
      }

  unused_back : Unused s k → (i : ℕ) → frame_place k ≤ i → i < frame_place k + frame_bytes → byte_at s i ≡ 0
  unused_back w i lo hi = go (dec_lt i (map_place k 0)) (dec_lt i (function_place k)) (dec_lt i (instruction_place k)) (dec_lt i (frame_place k + spare_in))
    where
      go : Dec (i < map_place k 0) → Dec (i < function_place k) → Dec (i < instruction_place k) → Dec (i < frame_place k + spare_in) → byte_at s i ≡ 0
      go (yes a) b c d = registers_back s k inside 0 w.registers i (omega arith) a
      go (no a) (yes b) c d = entries_back s k inside 0 w.maps i (omega arith) b
      go (no a) (no b) (yes c) d =
          let e : function_place k ≡ i = omega arith in
          ap (byte_at s) (sym e) ∙ sym (function_is s {k = k} inside) ∙ w.function
      go (no a) (no b) (no c) (yes d) =
          byte_none 2 s (instruction_place k) i (sym (instruction_is s {k = k} inside) ∙ w.instruction) (omega arith) (omega arith)
      go (no a) (no b) (no c) (no d) = last_back s k inside w.last i (omega arith) hi

-- ---- frame k, of n frames

pub record FrameSpare (f s : Bytes) (n k : ℕ) : Type 0 where
  pub unused : n ≤ k → Unused s k
  pub used : k < n → UsedSpare f s k

pub frame_used : {f s : Bytes} {n k : ℕ} {b : Bool} → k < n → Tells b (UsedSpare f s k) → Tells b (FrameSpare f s n k)
frame_used h t = tells_map (λ u. record { unused = λ l. absurd (omega arith); used = λ l. u }) (λ w. w.used h) t

pub frame_unused : {f s : Bytes} {n k at : ℕ} {b : Bool} → k < most_frames → n ≤ k → at ≡ frame_place k → Tells b (Zero s at (at + frame_bytes)) → Tells b (FrameSpare f s n k)
frame_unused {f} {s} {n} {k} inside h e t =
    tells_map (λ u. record { unused = λ l. unused_to s k inside u; used = λ l. absurd (omega arith) })
    (λ w i l. record { is = λ lo. unused_back s k inside (w.unused h) i lo l }) (rw e at t)

-- ---- all of them

pub record SpareShape (f s : Bytes) : Type 0 where
  pub functions : (k : ℕ) → k < most_frames → (view s).frames ≤ k → (view s).fn k ≡ 0
  pub instructions : (k : ℕ) → k < most_frames → (view s).frames ≤ k → (view s).pc k ≡ 0
  pub frame_registers : (k : ℕ) → k < most_frames → (view s).frames ≤ k → (a : ℕ) → a < most_registers → (view s).reg k a ≡ 0
  pub frame_maps : (k : ℕ) → k < most_frames → (view s).frames ≤ k → (i : ℕ) → i < most_regions → (view s).map k i ≡ 0
  pub registers : (k : ℕ) → k < (view s).frames → (a : ℕ) → a < most_registers → ((module_of f).function ((view s).fn k)).registers ≤ a → (view s).reg k a ≡ 0
  pub maps : (k : ℕ) → k < (view s).frames → (i : ℕ) → i < most_regions → regions ((module_of f).function ((view s).fn k)) ≤ i → (view s).map k i ≡ 0
  pub unread : SpareZero s

module _ (f s : Bytes) where
  abbrev Frames : Type 0
  Frames = (k : ℕ) → k < most_frames → FrameSpare f s (view s).frames k

  last_of : (n k : ℕ) → FrameSpare f s n k → NoLast s k
  last_of n k w = ⊎_elim (λ a. (w.used a).last) (λ a. (w.unused a).last) (lt_or_le k n)

  unread_to : Zero s header_end owners_at → Zero s stack_end memory_at → Frames → SpareZero s
  unread_to x y z i (inl c) = (x i c.1).is c.0
  unread_to x y z i (inr (inl c)) = (y i c.1).is c.0
  unread_to x y z i (inr (inr c)) = last_back s c.frame c.below (last_of (view s).frames c.frame (z c.frame c.below)) i c.low c.high

  shape_to : ((Zero s header_end owners_at × Zero s stack_end memory_at) × Frames) → SpareShape f s
  unfolding view
  shape_to p =
      record {
        functions = λ k h l. ((p.1 k h).unused l).function;
        instructions = λ k h l. ((p.1 k h).unused l).instruction;
        frame_registers = λ k h l a b. ((p.1 k h).unused l).registers a b (omega arith);
        frame_maps = λ k h l i b. ((p.1 k h).unused l).maps i b (omega arith);
        registers = λ k l a b c. ⊎_elim (λ h. ((p.1 k h).used l).registers a b c) (λ h. register_past s {k = k} {a = a} (inl h)) (lt_or_le k most_frames);
        maps = λ k l i b c. ⊎_elim (λ h. ((p.1 k h).used l).maps i b c) (λ h. map_past s {k = k} {i = i} (inl h)) (lt_or_le k most_frames);
        unread = unread_to p.0.0 p.0.1 p.1;
      }

  shape_back : SpareShape f s → ((Zero s header_end owners_at × Zero s stack_end memory_at) × Frames)
  unfolding view
  shape_back w = (
    (λ i l. record { is = λ lo. w.unread i (inl (lo, l)) }, λ i l. record { is = λ lo. w.unread i (inr (inl (lo, l))) }),
    λ k h.
        let last : NoLast s k = λ o l. w.unread (frame_place k + spare_in + o) (inr (inr (record { frame = k; below = h; low = omega arith; high = omega arith }))) in
        record {
          unused = λ l.
              record {
                function = w.functions k h l;
                instruction = w.instructions k h l;
                registers = λ a b c. w.frame_registers k h l a b;
                maps = λ i b c. w.frame_maps k h l i b;
                last = last;
              };
          used = λ l. record { registers = λ a b c. w.registers k l a b c; maps = λ i b c. w.maps k l i b c; last = last };
        },
  )

pub spare_by : {f s : Bytes} {n : ℕ} {x y z : Bool} → n ≡ (view s).frames → Tells x (Zero s header_end owners_at) → Tells y (Zero s stack_end memory_at)
    → Tells z ((k : ℕ) → k < most_frames → FrameSpare f s n k) → Tells ((x && y) && z) (SpareShape f s)
spare_by {f} {s} en t u v = tells_map (shape_to f s) (shape_back f s) (tells_and (tells_and t u) (rw en at v))
