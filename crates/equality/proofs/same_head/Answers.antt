-- `equality::same_head` meets its contract: each number that is compared is the head's.
use Rattle.equality.specs.Equal.{heads_are, args_same}
use Prim.Native.Nat.{ℕ}
use Rattle.terms.specs.Compare.{byte_under}
use Rattle.terms.specs.Heads.{args_no}
use mathlib.Core.Path.{ap, ap₂, ◌∙◌}
use Rattle.equality.proofs.same_head.Goals as goal

pub returns : goal.returns
returns c = let a = c.args in
    heads_are a.p.now a.x a.q.now a.y c.form_no-form.ensures c.form_no.ensures c.main_no.ensures c.main_no-2.ensures
    (c.region.ensures ∙ ap (byte_under a.p.now) c.region_no.ensures) (c.region-2.ensures ∙ ap (byte_under a.q.now) c.region_no-2.ensures)
    c.args_no-count.ensures c.args_no.ensures
    (c.same_args.ensures ∙ ap (λ (n : ℕ). args_same a.p.now c.word_no.result a.q.now c.word_no-2.result n) c.args_no-count.ensures
    ∙ ap₂ (λ (d e : ℕ). args_same a.p.now d a.q.now e (args_no a.x)) c.word_no.ensures c.word_no-2.ensures)
