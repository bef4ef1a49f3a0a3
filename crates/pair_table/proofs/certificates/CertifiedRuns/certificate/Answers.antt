use Rattle.std.proofs.Common.{◌≡◌, [], true, refl, sym, ap, subst, Some, ◌∙◌}
use Rattle.std.proofs.lemmas.Option.{get_or_from_slice_get}
use Rattle.desk_model.specs.Name.{is_name}
use Rattle.pair_table.proofs.Listing.{number_there}
use Rattle.pair_table.proofs.certificates.CertifiedRuns.certificate.Goals as goal

pub copy_of-requires : goal.copy_of-requires
copy_of-requires g c =
    let runs = c.args.self.now.desk.now.runs in
    subst (λ name. is_name name ≡ true) (get_or_from_slice_get runs c.args.self.now.first c.run_name.result.now [] c.run_name.ensures) (c.valid.ensures.named c.args.self.now.first [] c.args.self.now.first_known)

pub copy_of-requires-2 : goal.copy_of-requires-2
copy_of-requires-2 g c =
    let runs = c.args.self.now.desk.now.runs in
    subst (λ name. is_name name ≡ true) (get_or_from_slice_get runs c.args.self.now.second c.run_name-2.result.now [] c.run_name-2.ensures) (c.valid.ensures.named c.args.self.now.second [] c.args.self.now.second_known)

pub returns-clause-compares : goal.returns-clause-compares
returns-clause-compares g c =
    let desk = c.args.self.now.desk.now in
    let different = c.valid.ensures.distinct in
    record {
      by_measure = c.name.ensures.name ∙ ap g.M.Measure.measured c.measure.ensures;
      at_level = refl;
      runs = (
        number_there desk.runs c.args.self.now.first _ different (c.run_name.ensures ∙ ap Some (sym c.in_ok-copy_of.ensures)),
        number_there desk.runs c.args.self.now.second _ different (c.run_name-2.ensures ∙ ap Some (sym c.in_ok-copy_of-2.ensures)),
      );
    }
