-- The struct that a struct's only field is has a lower number.
use Rattle.positions.proofs.+innermost.Given as goal

abbrev pub decreases-innermost : goal.decreases-innermost
decreases-innermost l = l.number
