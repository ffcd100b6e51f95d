-- Two kinds are the same where their codes are (`same_kind`). By cases.
use Rattle.std.proofs.Common.{◌≡◌, nat_eq, refl}
use denote.Enum.Bare.{sameb}
use Rattle.optics.specs.contracts.microfacet.Kind.{the_type}
use Rattle.optics.specs.declared.microfacet.{Kind.Kind, Kind.TheVariants.Metal, Kind.TheVariants.Glass}
use Rattle.optics.specs.Surface.{kind_code}

pub same_kind : (p q : Kind) → sameb the_type p q ≡ nat_eq (kind_code p) (kind_code q)
unfolding kind_code
same_kind Metal Metal = refl
same_kind Metal Glass = refl
same_kind Glass Metal = refl
same_kind Glass Glass = refl
