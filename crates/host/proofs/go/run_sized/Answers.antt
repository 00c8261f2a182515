-- `host::go::run_sized` meets its contract: a small file has room, and every accepted file.
use native.Mathlib.Omega.{arith}
use Rattle.prepare.specs.Room.{few_words, small_words_law}
use Rattle.host.proofs.go.run_sized.Goals as goal

pub run_in-requires : goal.run_in-requires
run_in-requires c = let p = c.requires in record { ready = p.0; room = (small_words_law c.args.file.now c.if-file-le-SMALL_BLOCKS.true, omega arith); running = p.1.0; output = p.1.1 }

pub run_in-requires-else-file-le-SMALL_BLOCKS : goal.run_in-requires-else-file-le-SMALL_BLOCKS
run_in-requires-else-file-le-SMALL_BLOCKS c = let p = c.requires in record { ready = p.0; room = (few_words c.args.file.now p.0.accepted, omega arith); running = p.1.0; output = p.1.1 }
