-- What the name stands for.
use Rattle.hunk_json.specs.FileJson.{definition_json}
use Rattle.hunk_json.proofs.DocumentLemmas.{told-utf8}
use Rattle.hunk_json.proofs.FileJsonLemmas.{meaning-told}
use Rattle.hunk_json.proofs.object.Tuple2NameDefinitionWriteJson.write_json.Goals as goal

pub returns-in-At-clause-utf8 : goal.returns-in-At-clause-utf8
returns-in-At-clause-utf8 g c = let named = c.args.self.now in told-utf8 (definition_json named) (meaning-told named.0 named.1)

pub returns-in-Absolute-clause-utf8 : goal.returns-in-Absolute-clause-utf8
returns-in-Absolute-clause-utf8 g c = let named = c.args.self.now in told-utf8 (definition_json named) (meaning-told named.0 named.1)
