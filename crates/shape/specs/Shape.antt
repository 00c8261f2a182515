-- The state test without what needs types: every clause but the values and the ends of the marks. Assumes nothing.
use Rattle.std.specs.Prelude.{◌≡◌, Bool, ◌&&◌}
use Rattle.words.specs.Bytes.{Bytes}
use Rattle.words.specs.Decide.{does}
use Rattle.rules.specs.Decode.{module_of}
use Rattle.rules.specs.State.{view}
use Rattle.rules.specs.StateTest.{FramesOk, dec_frames}
use Rattle.stack.specs.Tells.{Tells, tells_map, tells_and, does_tells}
use Rattle.shape.specs.Header.{HeaderOk}
use Rattle.shape.specs.Pages.{PagesOk}
use Rattle.shape.specs.Spare.{SpareShape}

pub record Shape (f s : Bytes) : Type 0 where
  pub header : HeaderOk s
  pub frames : FramesOk (module_of f) (view s).fn (view s).pc (view s).map (view s).frames
  pub pages : PagesOk f s
  pub spare : SpareShape f s

pub shape_by : {f s : Bytes} {h b p q : Bool} → Tells h (HeaderOk s)
    → b ≡ does (dec_frames (module_of f) (view s).fn (view s).pc (view s).map (view s).frames) → Tells p (PagesOk f s) → Tells q (SpareShape f s)
    → Tells ((h && b) && (p && q)) (Shape f s)
shape_by {f} {s} t e u v =
    tells_map (λ w. record { header = w.0.0; frames = w.0.1; pages = w.1.0; spare = w.1.1 })
    (λ w. ((w.header, w.frames), (w.pages, w.spare)))
    (tells_and (tells_and t (does_tells (dec_frames (module_of f) (view s).fn (view s).pc (view s).map (view s).frames) e)) (tells_and u v))
