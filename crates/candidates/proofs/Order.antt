-- `goes_before` on accepted candidates: two never go before each other (`asym`), and where a goes before b and c doesn't,
-- a goes before c (`cotrans`). By the order of finite values.
-- The proof of the statement over every list of calls uses these two laws of `goes_before` and nothing else.
use mathlib.Core.Path.{◌≡◌}
use lib.Dec.{T}
use lib.Ieee.{le}
use lib.Ieee.Fits.{and_l}
use Rattle.floats.specs.Float.{f0, is_finite}
use Rattle.floats.proofs.Rounding.Order.{Finite, lt_asym, lt_cotrans}
use Rattle.numbers.specs.Refusal.{accepted}
use Rattle.numbers.proofs.refusal.Checks.{test_passed}
use Rattle.candidates.specs.Candidate.{Candidate, is_density, check_candidate, goes_before, CandidateF64}

-- what an accepted candidate has
pub record Ready (c : Candidate) : Type 0 where
  pub density : Finite c.density

pub ready : (c : Candidate) → CandidateF64 c → check_candidate c ≡ accepted → Ready c
unfolding CandidateF64 check_candidate is_density
ready c f e =
    record {
      density =
          record {
            fits_x = f;
            finite_x = and_l (is_finite c.density) (le f0 c.density) (test_passed 9 (is_density c.density) e);
          };
    }

pub asym : (a b : Candidate) → Ready a → Ready b → T (goes_before a b) → T (goes_before b a) → ⊥
asym a b f g = lt_asym b.density a.density g.density f.density

pub cotrans : (a b c : Candidate) → Ready a → Ready b → Ready c → T (goes_before a b) → (T (goes_before c b) → ⊥) → T (goes_before a c)
cotrans a b c f g h = lt_cotrans a.density b.density c.density f.density g.density h.density
