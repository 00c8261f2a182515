-- The element of an array is at a lower place.
use Rattle.positions.proofs.+bare.Given as goal

abbrev pub decreases-bare : goal.decreases-bare
decreases-bare l = l.p
