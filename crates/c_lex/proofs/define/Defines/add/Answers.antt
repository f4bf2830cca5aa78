use Rattle.std.proofs.Common.{sym, ap, ◌∙◌, map, [], ◌∷◌}
use Rattle.std.specs.Prelude.{◌==◌}
use Rattle.std.specs.Cmp.Lexicographic.{pointwise}
use Rattle.std.proofs.lemmas.List.{map-append}
use Rattle.indexmap.proofs.CallerLemmas.{insert_entry-new}
use Rattle.c_lex.specs.Turns.{numeral_of, entry_of}
use Rattle.c_lex.proofs.Searches.{lookup-map, none_before}
use Rattle.c_lex.proofs.define.Defines.add.Goals as goal

pub returns : goal.returns
returns c =
    let none = none_before numeral_of _ (sym (lookup-map (pointwise ◌==◌ c.args.name) numeral_of c.args.self.now.numbers.entries) ∙ c.requires) in
    ap (map entry_of) (c.in_ok-insert.ensures.entries ∙ insert_entry-new (pointwise ◌==◌) c.args.self.now.numbers c.args.name c.args.number none)
    ∙ map-append entry_of c.args.self.now.numbers.entries ((c.args.name, c.args.number) ∷ [])
