-- Document 01, "Opening makes one such frame, function 0 at instruction 0 with the arguments": the fresh machine as the code writes it, register
-- by register and region by region, is rules' `first_at`. Assumes nothing.
use Rattle.std.specs.Prelude.{◌≡◌, cond, [], ℕ, ◌+◌, ◌*◌, ◌≤◌, ltb, length, get_or, replicate}
use Rattle.std.proofs.Common.{sym, ap, ap₂, ◌∙◌, ⊎_elim, arith}
use Rattle.words.specs.Bytes.{Bytes, number, fill}
use Rattle.words.specs.Choose.{lt_or_le, cond_lt, cond_nlt}
use Rattle.rules.specs.Limits.{state_bytes, most_registers, most_regions}
use Rattle.rules.specs.Module.{Module}
use Rattle.rules.specs.State.{frame_place, written, put_range, put_frames, put_frame, put_register}
use Rattle.rules.specs.Step.{lowest_numbers}
use Rattle.rules.specs.Host.{first_register, first_at}
use Rattle.rules.specs.declared.PageRange.{PageRange}
use Rattle.state.specs.Apply.{nothing}
use Rattle.state.specs.Puts.{after}
use Rattle.state.specs.Fields.{fill_whole}
use Rattle.state.specs.NewFrame.{put_region, frame_of_agree}
use Rattle.state.specs.Filling.{put_registers, put_regions, registers_more, regions_more, overlaid, overlaid_first, registers_frame, regions_frame}
use Rattle.state.specs.Regions.{numbers_first, numbers_past}

-- the arguments, as the registers of function 0
abbrev pub arguments_of : Bytes → ℕ → ℕ
arguments_of xs i = number 4 xs (4 * i)

-- local region i is live region i
abbrev pub itself : ℕ → ℕ
itself i = i

-- ---- as the loops write it

-- one argument more
pub arguments_more : (s u w xs : Bytes) (i x : ℕ) → u ≡ put_registers 0 (arguments_of xs) i s → x ≡ arguments_of xs i → w ≡ after (put_register 0 i x) u → w ≡ put_registers 0 (arguments_of xs) (i + 1) s
arguments_more s u w xs i x e d q =
    q ∙ ap₂ (λ (y : ℕ) (t : Bytes). after (put_register 0 i y) t) d e ∙ sym (registers_more 0 (arguments_of xs) i s)

-- one local region more
pub locals_more : (s u w : Bytes) (i : ℕ) → u ≡ put_regions 0 0 itself i s → w ≡ after (put_region 0 i i) u → w ≡ put_regions 0 0 itself (i + 1) s
locals_more s u w i e q =
    let o : 0 + i ≡ i = omega arith in
    q ∙ ap (λ (t : Bytes). after (put_region 0 i i) t) e ∙ (rw o at (sym (regions_more 0 0 itself i s)))

-- ---- the whole

registers_first : (m : Module) (xs : Bytes) {p : ℕ} → p ≡ (m.function 0).params → (i : ℕ) → overlaid nothing 0 (arguments_of xs) p i ≡ first_register m xs i
unfolding first_register
registers_first m xs {p} e i = overlaid_first (arguments_of xs) p i ∙ ap (λ (k : ℕ). cond (ltb i k) (arguments_of xs i) 0) e

regions_first : (n i : ℕ) → overlaid nothing 0 itself n i ≡ get_or (lowest_numbers n []) i 0
regions_first n i = overlaid_first itself n i ∙ ⊎_elim
    (λ h. cond_lt i 0 h ∙ sym (numbers_first n i h))
    (λ h. cond_nlt i 0 h ∙ sym (numbers_past n [] i h))
    (lt_or_le i n)

-- cleared, its range, one frame, function 0's without map and registers; then its arguments, then its local regions
pub fresh_made : (R : PageRange) (m : Module) (s z a b c d t xs : Bytes) (p n : ℕ) → length s ≡ state_bytes → p ≤ most_registers → n ≤ most_regions
    → p ≡ (m.function 0).params → n ≡ (m.function 0).locals
    → z ≡ fill state_bytes s 0 0 → a ≡ after (put_range R) z → b ≡ after (put_frames 1) a → c ≡ after (put_frame 0 0 nothing nothing) b
    → d ≡ put_registers 0 (arguments_of xs) p c → t ≡ put_regions 0 0 itself n d → t ≡ first_at R m xs
unfolding first_at written
fresh_made R m s z a b c d t xs p n size few small ep en ez ea eb ec ed et =
    et
    ∙ ap (put_regions 0 0 itself n) (ed ∙ ap (put_registers 0 (arguments_of xs) p) ec ∙ registers_frame b 0 0 nothing nothing (arguments_of xs) p few)
    ∙ regions_frame b 0 0 nothing (overlaid nothing 0 (arguments_of xs) p) 0 itself n (omega arith) (λ i l. omega arith)
    ∙ ap (λ (l : Bytes). after (record { place = frame_place 0; bytes = l }) b)
    (frame_of_agree 0 (overlaid nothing 0 itself n) (λ i. get_or (lowest_numbers (m.function 0).locals []) i 0) (overlaid nothing 0 (arguments_of xs) p) (first_register m xs)
    (λ i l. regions_first n i ∙ ap (λ (k : ℕ). get_or (lowest_numbers k []) i 0) en) (λ i l. registers_first m xs ep i))
    ∙ ap (after (put_frame 0 0 (λ i. get_or (lowest_numbers (m.function 0).locals []) i 0) (first_register m xs)))
    (eb ∙ ap (after (put_frames 1)) (ea ∙ ap (after (put_range R)) (ez ∙ fill_whole state_bytes s (sym size) ∙ ap (λ (k : ℕ). replicate k 0) size)))
