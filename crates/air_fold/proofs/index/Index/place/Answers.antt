use Rattle.std.proofs.Common.{◌≡◌, ◌∙◌, sym}
use Rattle.b3_ir.specs.Procedure.{place_among}
use Rattle.air_fold.proofs.Places.{place_found, place_missed}
use Rattle.air_fold.proofs.index.Index.place.Goals as goal

pub returns-in-Some-clause-place : goal.returns-in-Some-clause-place
returns-in-Some-clause-place c =
    let found : c.in-Some.place ≡ place_among c.self.inside.ids.keys c.args.id =
    place_found c.self.inside.ids.keys c.args.id c.in-Some.place (sym c.get_index_of.ensures.index ∙ c.in-Some.is) in
    rw (← c.self.view_is) found

pub returns-in-None-clause-place : goal.returns-in-None-clause-place
returns-in-None-clause-place c =
    let missed : c.len.result ≡ place_among c.self.inside.ids.keys c.args.id =
    c.len.ensures.len ∙ place_missed c.self.inside.ids.keys c.args.id (sym c.get_index_of.ensures.index ∙ c.in-None.is) in
    rw (← c.self.view_is) missed
