-- `checker::term_rules` meets its contract: one stage.
use Rattle.rules.specs.Decode.{module_of}
use Rattle.rules.specs.Verdict.{term_stage, term_test}
use Rattle.framing.specs.Outcome.{first_passes, first_refuses}
use Rattle.checker.specs.Rules.{found, ended}
use Rattle.checker.proofs.term_rules.Goals as goal

pub returns-then-t-n : goal.returns-then-t-n
returns-then-t-n c = let m = module_of c.args.f.now in first_refuses (term_stage m) (found (term_test m) c.requires.terms.are c.first_term-t.ensures c.if-t-n.true)

pub returns-else-t-n : goal.returns-else-t-n
returns-else-t-n c = let m = module_of c.args.f.now in first_passes (term_stage m) (ended (term_test m) c.requires.terms.are c.first_term-t.ensures c.if-t-n.false)
