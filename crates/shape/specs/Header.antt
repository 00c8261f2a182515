-- Length and header of a state. Assumes nothing.
use Rattle.std.specs.Prelude.{◌≡◌, Bool, ◌&&◌, ◌||◌, ◌⊎◌, ℕ, ◌<◌, ◌≤◌, eqb, ltb, leb, length}
use Rattle.std.proofs.Common.{sym, ◌∙◌, inl, inr}
use Rattle.words.specs.Bytes.{Bytes}
use Rattle.rules.specs.Limits.{state_bytes, output_bytes}
use Rattle.words.specs.Decide.{does}
use Rattle.rules.specs.State.{View, view}
use Rattle.rules.specs.StateTest.{StatusOk, running, stopped, ended, dec_status}
use Rattle.stack.specs.Tells.{Tells, tells_map, tells_and, tells_or, tells_lt, tells_le, tells_eq, tells_does, does_tells}

pub record HeaderOk (s : Bytes) : Type 0 where
  pub size : length s ≡ state_bytes
  pub status : StatusOk (view s)
  pub output : (view s).output_count ≤ output_bytes

-- the test as the code writes it
abbrev status_test : (status n result : ℕ) → Bool
status_test a n r =
    (eqb a 0 && (ltb 0 n && eqb r 0)) || (((leb 31 a && leb a 39) && (ltb 0 n && eqb r 0)) || (eqb a 1 && eqb n 0))

status_at_law : (v : View) → Tells (status_test v.status v.frames v.result) (StatusOk v)
status_at_law v =
    tells_map to back
    (tells_or (tells_and (tells_eq v.status 0) (tells_and (tells_lt 0 v.frames) (tells_eq v.result 0)))
    (tells_or (tells_and (tells_and (tells_le 31 v.status) (tells_le v.status 39)) (tells_and (tells_lt 0 v.frames) (tells_eq v.result 0)))
    (tells_and (tells_eq v.status 1) (tells_eq v.frames 0))))
  where
    to : ((v.status ≡ 0) × ((0 < v.frames) × (v.result ≡ 0)))
        ⊎ ((((31 ≤ v.status) × (v.status ≤ 39)) × ((0 < v.frames) × (v.result ≡ 0))) ⊎ ((v.status ≡ 1) × (v.frames ≡ 0)))
        → StatusOk v
    to (inl h) = running h.0 h.1.0 h.1.1
    to (inr (inl h)) = stopped (record { low = h.0.0; high = h.0.1 }) h.1.0 h.1.1
    to (inr (inr h)) = ended h.0 h.1

    back : StatusOk v
        → ((v.status ≡ 0) × ((0 < v.frames) × (v.result ≡ 0)))
        ⊎ ((((31 ≤ v.status) × (v.status ≤ 39)) × ((0 < v.frames) × (v.result ≡ 0))) ⊎ ((v.status ≡ 1) × (v.frames ≡ 0)))
    back (running a b c) = inl (a, (b, c))
    back (stopped l b c) = inr (inl ((l.low, l.high), (b, c)))
    back (ended a b) = inr (inr (a, b))

pub status_by : (v : View) {a n r : ℕ} → a ≡ v.status → n ≡ v.frames → r ≡ v.result → status_test a n r ≡ does (dec_status v)
status_by v ea en er = rw (ea, en, er) (tells_does (status_at_law v) (dec_status v))

pub header_by : {s : Bytes} {b : Bool} {l c : ℕ} → l ≡ length s → b ≡ does (dec_status (view s)) → c ≡ (view s).output_count
    → Tells ((eqb l state_bytes && b) && leb c output_bytes) (HeaderOk s)
header_by {s} {b} {l} {c} el eb ec =
    tells_map
    (λ p. record { size = sym el ∙ p.0.0; status = p.0.1; output = rw (← ec) p.1 })
    (λ w. ((el ∙ w.size, w.status), rw ec w.output))
    (tells_and (tells_and (tells_eq l state_bytes) (does_tells (dec_status (view s)) eb)) (tells_le c output_bytes))
