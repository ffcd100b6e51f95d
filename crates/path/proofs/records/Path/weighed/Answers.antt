-- `path::records::Path::weighed` meets its contract: what `zip_with` gives is each power times its weight.
use Rattle.std.proofs.Common.{◌≡◌, ap, rules}
use Rattle.path.specs.Path.{path, weighed}
use Rattle.path.proofs.records.Path.weighed.Goals as goal

pub returns : goal.returns
unfolding weighed
returns c =
    let each : c.zip_with.result ≡ weighed c.args.self.power c.args.weight = search rules in
    ap (path c.args.self.lambda) each
