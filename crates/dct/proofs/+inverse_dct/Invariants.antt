-- the recursion goes down with n
use Rattle.dct.proofs.+inverse_dct.Given as goal

abbrev pub decreases-inverse_dct : goal.decreases-inverse_dct
decreases-inverse_dct l = l.n
