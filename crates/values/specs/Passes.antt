-- The state test as a whole is the conjunction of its parts: shape, registers, primitives in owned pages, ends of the marks.
-- Assumes nothing.
use Rattle.std.specs.Prelude.{◌≡◌, Bool, true, false, not, ℕ, ◌<◌}
use Rattle.words.specs.Bytes.{Bytes}
use Rattle.words.specs.Decide.{does}
use Rattle.rules.specs.Limits.{pages}
use Rattle.rules.specs.Decode.{module_of}
use Rattle.rules.specs.State.{view}
use Rattle.rules.specs.StateTest.{PageOk, Passes, dec_passes}
use Rattle.stack.specs.Tells.{Tells, tells_map, tells_no, told_yes, told_no, tells_does}
use Rattle.shape.specs.Shape.{Shape}
use Rattle.marks.specs.Ends.{AllEnds}
use Rattle.registers.specs.Registers.{AllRegisters}

-- each primitive in each owned page is a value of its type
pub record AllPrimitives (f s : Bytes) : Type 0 where
  pub each : (p : ℕ) → p < pages → PageOk (module_of f) (view s) (view s).frames p ((view s).owner p)

abbrev Parts : Bytes → Bytes → Type 0
Parts f s = (Shape f s × AllRegisters f s) × (AllPrimitives f s × AllEnds f s)

-- the whole from its parts, and the parts of the whole
whole : {f s : Bytes} → Parts f s → Passes (module_of f) s
whole h =
    record {
      size = h.0.0.header.size;
      status = h.0.0.header.status;
      output = h.0.0.header.output;
      frames = h.0.0.frames;
      contents =
          record {
            in_range = h.0.0.pages.in_range;
            owners = h.0.0.pages.owners;
            marks = h.0.0.pages.marks;
            registers = h.0.1.each;
            primitives = h.1.0.each;
          };
      spare =
          record {
            functions = h.0.0.spare.functions;
            instructions = h.0.0.spare.instructions;
            frame_registers = h.0.0.spare.frame_registers;
            frame_maps = h.0.0.spare.frame_maps;
            registers = h.0.0.spare.registers;
            maps = h.0.0.spare.maps;
            marks = h.1.1.each;
          };
      unread = h.0.0.spare.unread;
    }

parts : {f s : Bytes} → Passes (module_of f) s → Parts f s
parts p = (
  (
    record {
      header = record { size = p.size; status = p.status; output = p.output };
      frames = p.frames;
      pages = record { in_range = p.contents.in_range; owners = p.contents.owners; marks = p.contents.marks };
      spare =
          record {
            functions = p.spare.functions;
            instructions = p.spare.instructions;
            frame_registers = p.spare.frame_registers;
            frame_maps = p.spare.frame_maps;
            registers = p.spare.registers;
            maps = p.spare.maps;
            unread = p.unread;
          };
    },
    record { each = p.contents.registers },
  ),
  (record { each = p.contents.primitives }, record { each = p.spare.marks }),
)

-- ---- the parts are tested one after the other: the first that fails gives the answer

module _ {f s : Bytes} {b : Bool} where
  pub no_shape : Tells b (Shape f s) → not b ≡ true → false ≡ does (dec_passes (module_of f) s)
  no_shape t e = tells_does (tells_no (λ p. told_no t e (parts p).0.0)) (dec_passes (module_of f) s)

  pub no_ends : Tells b (AllEnds f s) → not b ≡ true → false ≡ does (dec_passes (module_of f) s)
  no_ends t e = tells_does (tells_no (λ p. told_no t e (parts p).1.1)) (dec_passes (module_of f) s)

  pub no_registers : Tells b (AllRegisters f s) → not b ≡ true → false ≡ does (dec_passes (module_of f) s)
  no_registers t e = tells_does (tells_no (λ p. told_no t e (parts p).0.1)) (dec_passes (module_of f) s)

-- the last gives it where no other failed
pub passes_by : {f s : Bytes} {a b c d : Bool} → Tells a (Shape f s) → not a ≡ false → Tells b (AllEnds f s) → not b ≡ false → Tells c (AllRegisters f s) → not c ≡ false
    → Tells d (AllPrimitives f s) → d ≡ does (dec_passes (module_of f) s)
passes_by {f} {s} t x u y v z w =
    tells_does
    (tells_map (λ h. whole ((told_yes t x, told_yes v z), (h, told_yes u y))) (λ p. (parts p).1.0) w)
    (dec_passes (module_of f) s)
