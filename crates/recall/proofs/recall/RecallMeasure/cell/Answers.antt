use Rattle.std.proofs.Common.{◌≡◌, arith}
use Rattle.measure_core.specs.Told.{AreTold}
use Rattle.recall.proofs.recall.RecallMeasure.cell.Goals as goal

pub own_cell-requires : goal.own_cell-requires
own_cell-requires g c =
    let k : c.args.self.now ≡ c.self.inside.k = cc in (
      c.args.marks.now,
      c.args.a.now,
      c.args.b.now,
      rw k (record {
        met = c.requires;
        first = c.own_counts-own.ensures.first;
        second = c.own_counts-own.ensures.second;
        topic = record { least = c.all_documents.ensures.least; most = c.all_documents.ensures.most };
        few = omega (arith, c.all_documents.ensures.few, c.requires.small);
      }),
    )

pub returns-clause-cell : goal.returns-clause-cell
returns-clause-cell g c =
    let k : c.args.self.now ≡ c.self.inside.k = cc in
    let told : AreTold c.args.self.now c.args.marks.now c.args.a.now c.args.b.now c.own_counts-own.result c.all_documents.result = rw k (record {
      met = c.requires;
      first = c.own_counts-own.ensures.first;
      second = c.own_counts-own.ensures.second;
      topic = record { least = c.all_documents.ensures.least; most = c.all_documents.ensures.most };
      few = omega (arith, c.all_documents.ensures.few, c.requires.small);
    }) in
    c.own_cell.ensures.cell c.args.marks.now c.args.a.now c.args.b.now told
