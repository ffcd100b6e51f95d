-- `u64::from` a kind meets its contract: the number beside the kind's name is its code, kind by kind.
use Rattle.std.proofs.Common.{◌≡◌, refl}
use denote.Enum.Declared.{tag_of}
use Rattle.optics.specs.Surface.{Kind, Metal, Glass, kind_code}
use Rattle.optics.specs.contracts.microfacet.Kind.{the_type}
use Rattle.optics.proofs.microfacet.U64FromKind.from.Goals as goal

code_of : (kind : Kind) → tag_of the_type kind ≡ kind_code kind
unfolding kind_code
code_of Metal = refl
code_of Glass = refl

pub returns : goal.returns
returns c = code_of c.args.kind
