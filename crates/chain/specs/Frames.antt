-- The clause of the state test on frames, from the tests of its frames one by one. Assumes nothing.
use Rattle.std.specs.Prelude.{◌≡◌, Bool, ◌⊎◌, ◌≢◌, ℕ, suc, ◌+◌, ◌<◌, ◌≤◌}
use Rattle.std.proofs.Common.{sym, ap, inl, inr, ⊎_elim, arith}
use Rattle.words.specs.Bytes.{Bytes}
use Rattle.words.specs.Choose.{lt_or_le, eq_or_ne}
use Rattle.rules.specs.Limits.{most_frames}
use Rattle.words.specs.Decide.{does}
use Rattle.rules.specs.Decode.{module_of}
use Rattle.rules.specs.State.{view, frame_function, frame_instruction, frame_map}
use Rattle.rules.specs.StateTest.{FramesOk, dec_frames}
use Rattle.stack.specs.Tells.{Tells, tells_map, tells_does}
use Rattle.stack.specs.Facts.{function_at, LocalOk, LocalsOk, params_at, locals_at}
use Rattle.chain.specs.Chain.{Stands, Linked}

-- of n frames
pub record LinkOk (f s : Bytes) (n k : ℕ) : Type 0 where
  pub link : suc k < n → Linked f s k

pub record FrameOk (f s : Bytes) (n k : ℕ) : Type 0 where
  pub stands : Stands f s k
  pub link : LinkOk f s n k
  pub locals : LocalsOk f s k

pub link_by : {f s : Bytes} {n k : ℕ} {b : Bool} → k + 1 < n → Tells b (Linked f s k) → Tells b (LinkOk f s n k)
link_by h t = tells_map (λ l. record { link = λ a. l }) (λ w. w.link (omega arith)) t

pub link_last : {f s : Bytes} {n k : ℕ} → n ≤ k + 1 → LinkOk f s n k
link_last h = record { link = λ a. absurd (omega arith) }

pub frame_by : {f s : Bytes} {n k : ℕ} {b : Bool} → Stands f s k → Tells b (LinkOk f s n k × LocalsOk f s k) → Tells b (FrameOk f s n k)
frame_by st t = tells_map (λ p. record { stands = st; link = p.0; locals = p.1 }) (λ w. (w.link, w.locals)) t

module _ (f s : Bytes) (n : ℕ) where
  abbrev Each : Type 0
  Each = (n ≤ most_frames) × (((n ≡ 0) ⊎ (frame_function s 0 ≡ 0)) × ((k : ℕ) → k < n → FrameOk f s n k))

  -- local region i of frame k
  local : (k i : ℕ) → LocalsOk f s k → i < (function_at f s k).locals → LocalOk f s k (function_at f s k).region_params i
  local k i w h = rw (params_at f s k) (w.each i (rw (locals_at f s k) at h))

  less : (k i j : ℕ) → LocalsOk f s k → i < (function_at f s k).locals → j < i
      → frame_map s k ((function_at f s k).region_params + i) ≢ frame_map s k ((function_at f s k).region_params + j)
  less k i j w h l e = ((local k i w h).earlier j l).is (ap suc (sym e))

  different : (k i j : ℕ) → LocalsOk f s k → i < (function_at f s k).locals → j < (function_at f s k).locals → i ≢ j
      → frame_map s k ((function_at f s k).region_params + i) ≢ frame_map s k ((function_at f s k).region_params + j)
  different k i j w h l d e =
      ⊎_elim (λ a. less k j i w l a (sym e)) (λ a. less k i j w h (let z = d in omega arith) e) (lt_or_le i j)

  to : Each → FramesOk (module_of f) (frame_function s) (frame_instruction s) (frame_map s) n
  to w =
      record {
        few = w.0;
        known = λ k h. (w.1.1 k h).stands.known;
        stands = λ k h. (w.1.1 k h).stands.inside;
        lowest = λ h. ⊎_elim (λ z. absurd (omega arith)) (λ e. e) w.1.0;
        chain = λ k h. (w.1.1 k (omega arith)).link.link h;
        different = λ k h i a j b d. different k i j (w.1.1 k h).locals a b d;
        fresh = λ k h i a. (local k i (w.1.1 k h).locals a).fresh;
        numbered = λ k h i a. (local k i (w.1.1 k h).locals a).numbered;
      }

  back : FramesOk (module_of f) (frame_function s) (frame_instruction s) (frame_map s) n → Each
  back w = (
    w.few,
    (
      ⊎_elim (λ e. inl e) (λ d. inr (w.lowest (let z = d in omega arith))) (eq_or_ne n 0),
      λ k h.
          record {
            stands = record { known = w.known k h; inside = w.stands k h };
            link = record { link = λ a. w.chain k a };
            locals =
                record {
                  each = λ i a.
                      let l : i < (function_at f s k).locals = rw (locals_at f s k) a in
                      rw (← params_at f s k)
                      (record {
                        numbered = w.numbered k h i l;
                        fresh = w.fresh k h i l;
                        earlier = λ j b.
                            record {
                              is = λ e.
                                  w.different k h i l j (omega arith) (λ q. omega arith)
                                  (let z : suc (frame_map s k ((function_at f s k).region_params + j)) ≡ suc (frame_map s k ((function_at f s k).region_params + i)) = e in omega arith);
                            };
                      });
                };
          },
    ),
  )

pub frames_by : {f s : Bytes} {b : Bool} {n g : ℕ} → n ≡ (view s).frames → g ≡ frame_function s 0
    → Tells b ((n ≤ most_frames) × (((n ≡ 0) ⊎ (g ≡ 0)) × ((k : ℕ) → k < n → FrameOk f s n k)))
    → b ≡ does (dec_frames (module_of f) (view s).fn (view s).pc (view s).map (view s).frames)
unfolding view
frames_by {f} {s} {b} {n} {g} en eg t =
    tells_does (tells_map (to f s (view s).frames) (back f s (view s).frames) (rw (en, eg) at t)) (dec_frames (module_of f) (view s).fn (view s).pc (view s).map (view s).frames)
