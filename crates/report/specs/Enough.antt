-- The program reads no more of a file than one byte over the limit: of what is longer it prints the same. Assumes nothing.
use Rattle.std.specs.Prelude.{◌≡◌, refl, Bool, false, cond, ◌&&◌, [], ◌∷◌, ◌++◌, ℕ, ◌+◌, ◌*◌, ◌%◌, ◌<◌, ◌≤◌, eqb, ltb, leb, length, take, replicate}
use Rattle.std.proofs.Common.{sym, ap, ◌∙◌, ⊎_elim, arith, length-take-le, take_all, eqb-true, leb-true}
use Rattle.words.specs.Bytes.{Bytes}
use Rattle.words.specs.Choose.{both, false_by, lt_or_le, cond_nle}
use Rattle.words.specs.First.{first, first_from}
use Rattle.rules.specs.Limits.{block_bytes, most_blocks, most_form, state_bytes, bad_input}
use Rattle.rules.specs.File.{blocks, length_right, block_stage}
use Rattle.rules.specs.Stages.{verdict}
use Rattle.rules.specs.Verdict.{verdict_of, record_rules}
use Rattle.rules.specs.Host.{Went, refused, Opened, not_opened, opened, on_verdict, go_of, open_of, go_at}
use Rattle.rules.specs.Refusals.{Refused}
use Rattle.lines.specs.Lines.{verdict_line, went_line, second_line, printed}
use Rattle.lines.specs.Cases.{refused_alone}

-- "1 to 64 blocks of 512 bytes", "a form over 4,096 bytes": one byte more than that
abbrev pub file_buffer : ℕ
file_buffer = most_blocks * block_bytes + 1

abbrev pub form_buffer : ℕ
form_buffer = most_form + 1

-- ---- a file

too_long : (f : Bytes) → file_buffer ≤ length f → length_right f ≡ false
too_long f h = false_by (λ e.
    let l = both (eqb (length f % block_bytes) 0) (leb 1 (blocks f) && leb (blocks f) most_blocks) e in
    let m = leb-true (blocks f) most_blocks (both (leb 1 (blocks f)) (leb (blocks f) most_blocks) l.1).1 in
    let z = eqb-true (length f % block_bytes) 0 l.0 in
    omega arith)

long_refused : (f : Bytes) → file_buffer ≤ length f → verdict_of f ≡ Refused 1 0
unfolding verdict_of verdict first first_from
long_refused f h =
    ap (λ (b : Bool). cond (ltb (first 1 (λ p. b)) 1) (Refused 1 0) (verdict (block_stage f ∷ []) (record_rules f))) (too_long f h)

file_enough : (f form : Bytes) → printed (take file_buffer f) form ≡ printed f form
file_enough f form = ⊎_elim short long (lt_or_le (length f) file_buffer)
  where
    short : length f < file_buffer → printed (take file_buffer f) form ≡ printed f form
    short h = ap (λ (g : Bytes). printed g form) (take_all file_buffer f (omega arith))

    long : file_buffer ≤ length f → printed (take file_buffer f) form ≡ printed f form
    long h =
        let n = length-take-le file_buffer f h in
        refused_alone (take file_buffer f) form (long_refused (take file_buffer f) (omega arith)) ∙ sym (refused_alone f form (long_refused f h))

-- ---- a form

-- going on looks at no byte of a form that is too long
go_long : (f form s o : Bytes) (b : ℕ) → form_buffer ≤ length form → go_of f form s o b ≡ on_verdict refused (verdict_of f) (refused bad_input 0)
unfolding go_at
go_long f form s o b h =
    let l : most_form < length form = omega arith in
    ap (λ (w : Went). on_verdict refused (verdict_of f) w) (cond_nle _ _ l)

second_long : (f form form₂ : Bytes) (o : Opened) → form_buffer ≤ length form → form_buffer ≤ length form₂ → second_line f form o ≡ second_line f form₂ o
unfolding second_line
second_long f form form₂ (not_opened n p) h k = refl
second_long f form form₂ (opened s) h k = ap went_line (go_long f form s _ _ h ∙ sym (go_long f form₂ s _ _ k))

form_enough : (f form : Bytes) → printed f (take form_buffer form) ≡ printed f form
unfolding printed
form_enough f form = ⊎_elim short long (lt_or_le (length form) form_buffer)
  where
    short : length form < form_buffer → printed f (take form_buffer form) ≡ printed f form
    short h = ap (λ (g : Bytes). printed f g) (take_all form_buffer form (omega arith))

    long : form_buffer ≤ length form → printed f (take form_buffer form) ≡ printed f form
    long h =
        let n = length-take-le form_buffer form h in
        ap (λ (l : Bytes). verdict_line (verdict_of f) ++ on_verdict (λ n p. []) (verdict_of f) l)
        (second_long f (take form_buffer form) form (open_of f [] (replicate state_bytes 0)) (omega arith) h)

-- ---- both

pub enough : (f form : Bytes) → printed (take file_buffer f) (take form_buffer form) ≡ printed f form
enough f form = file_enough f (take form_buffer form) ∙ form_enough f form
