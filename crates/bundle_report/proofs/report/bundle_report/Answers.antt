use Rattle.std.proofs.Common.{◌≡◌, ◌+◌, length, ap, sym, ◌∙◌, arith}
use Rattle.std.specs.Prelude.{Option}
use Rattle.order_bundle.specs.Bundle.{Bundle, bundle_text}
use Rattle.order_bundle.specs.Scoped.{scoped_text}
use Rattle.order_bundle.specs.declared.any_certificate.AnyCertificate.TheVariants.{Many}
use Rattle.order_bundle.specs.declared.scoped.Scoped.{Scoped}
use Rattle.pair_table.specs.Kept.{table_sums}
use Rattle.bundle_report.proofs.Naming.{bundle_on, length_is_on, text_is_on, within_on}
use Rattle.bundle_report.proofs.report.bundle_report.Goals as goal

pub write_scoped-requires : goal.write_scoped-requires
write_scoped-requires g c = record { scope = c.depth-depth.ensures.within; body = c.in_ok-bundle.ensures.form }

pub returns-then-bytes-gt-LONGEST_TEXT : goal.returns-then-bytes-gt-LONGEST_TEXT
returns-then-bytes-gt-LONGEST_TEXT g c = λ s at under marked of.
    let table = c.args.table.now in
    let M = g.M.Measure in
    let found = c.in_ok-bytes.ensures.bytes in
    let depth = c.depth-depth.result in
    let whole : Scoped = record { depth = depth; body = Many found.bundle } in
    let is = c.scoped_text_length.ensures whole in
    let each = found.each found.bundle found.of_table in
    record {
      bundle = found.bundle;
      on = bundle_on c.bundles_are_of_names.ensures (M.measured table.measure) (M.cell_of table.measure) (M.bounds_of table.measure) c.args.desk.now (table_sums table) s c.level-level.result c.args.marks.now.rows c.valid.ensures (at ∙ sym c.level-level.ensures.value) marked of found.bundle found.of_table;
      counted = length_is_on s found.bundle depth _ (under ∙ sym c.depth-depth.ensures.value) (omega (arith, is, each, c.depth_length.ensures.count));
      long = c.if-bytes-gt-LONGEST_TEXT.true;
    }

pub returns-in-Ok : goal.returns-in-Ok
returns-in-Ok g c = λ s at under marked of.
    let table = c.args.table.now in
    let M = g.M.Measure in
    let bundle = c.in_ok-bundle.bundle in
    let depth = c.depth-depth.result in
    record {
      bundle = bundle;
      on = bundle_on c.bundles_are_of_names.ensures (M.measured table.measure) (M.cell_of table.measure) (M.bounds_of table.measure) c.args.desk.now (table_sums table) s c.level-level.result c.args.marks.now.rows c.valid.ensures (at ∙ sym c.level-level.ensures.value) marked of bundle c.in_ok-bundle.ensures;
      within = within_on s bundle depth (under ∙ sym c.depth-depth.ensures.value) (record { scope = c.depth-depth.ensures.within; body = c.in_ok-bundle.ensures.form });
      is = text_is_on s bundle depth c.in-Ok.text.items (under ∙ sym c.depth-depth.ensures.value) (c.scoped_certificates_have_texts.ensures.written c.in-Ok.text.items (record { depth = depth; body = Many bundle }) c.in-Ok.ensures.text);
      short = c.in-Ok.ensures.short;
    }

pub returns-in-Err-TooLong : goal.returns-in-Err-TooLong
returns-in-Err-TooLong g c = λ s at under marked of.
    let table = c.args.table.now in
    let M = g.M.Measure in
    let bundle = c.in_ok-bundle.bundle in
    let depth = c.depth-depth.result in
    let fault = rw c.in-Err-TooLong.field-0-is at c.in-Err-TooLong.ensures.fault in
    record {
      bundle = bundle;
      on = bundle_on c.bundles_are_of_names.ensures (M.measured table.measure) (M.cell_of table.measure) (M.bounds_of table.measure) c.args.desk.now (table_sums table) s c.level-level.result c.args.marks.now.rows c.valid.ensures (at ∙ sym c.level-level.ensures.value) marked of bundle c.in_ok-bundle.ensures;
      counted = length_is_on s bundle depth _ (under ∙ sym c.depth-depth.ensures.value) fault.0;
      long = fault.1;
    }
