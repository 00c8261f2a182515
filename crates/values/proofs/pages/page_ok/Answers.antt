-- `values::pages::page_ok` meets its contract: by whether the page has an owner, is the first that it has, and whether that is live and typed.
-- Assumes nothing.
use Rattle.std.proofs.Common.{ap, not}
use mathlib.Core.Path.{ap, ◌∙◌}
use Rattle.stack.specs.Tells.{tells_yes, told_yes, told_no}
use Rattle.values.specs.Pages.{leads_none, leads_seen, leads_dead, leads_untyped, leads_by}
use Rattle.values.proofs.pages.page_ok.Goals as goal

pub returns-then-owner-eq0 : goal.returns-then-owner-eq0
returns-then-owner-eq0 c = tells_yes (leads_none (c.from-owner.ensures ∙ c.owner.ensures) c.if-owner-eq0.true)

pub returns-then-not-unseen : goal.returns-then-not-unseen
returns-then-not-unseen c = tells_yes (leads_seen (c.from-owner.ensures ∙ c.owner.ensures) (told_no c.unseen.ensures (ap not c.if-not-unseen.true)))

pub returns-in_default : goal.returns-in_default
returns-in_default c = tells_yes (leads_dead (c.from-owner.ensures ∙ c.owner.ensures) c.if-owner-eq0.false c.in_default.ensures)

pub returns-then-home-eq-UNTYPED : goal.returns-then-home-eq-UNTYPED
returns-then-home-eq-UNTYPED c = tells_yes (leads_untyped (c.from-owner.ensures ∙ c.owner.ensures) c.if-owner-eq0.false c.in-Some.ensures c.if-home-eq-UNTYPED.true)

pub objects_of-o-requires : goal.objects_of-o-requires
objects_of-o-requires c = (rw (← c.owner.ensures, ← c.from-owner.ensures) c.in-Some.ensures, c.if-home-eq-UNTYPED.false)

pub returns : goal.returns
returns c = leads_by (c.from-owner.ensures ∙ c.owner.ensures) c.if-owner-eq0.false c.requires (told_yes c.unseen.ensures (ap not c.if-not-unseen.false)) c.objects_of-o.ensures c.positions_ok.ensures
