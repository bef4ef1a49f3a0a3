use Rattle.std.proofs.Common.{◌≡◌, ℕ, List, ◌++◌, true, ap, sym, subst, ◌∙◌}
use Rattle.std.specs.Prelude.{is_some, IfSome}
use Rattle.desk_model.specs.Name.{is_name}
use Rattle.file_rows.specs.Pieces.{HasFed}
use Rattle.file_rows.specs.declared.pieces.Pieces.{Pieces}
use Rattle.run_reader.specs.declared.row_reader.RowReader.{RowReader}
use Rattle.run_reader.specs.Reader.{given_in, HasRead, IsReady}
use Rattle.run_reader.specs.Fed.{FedRun, fed_run, IsFed}
use Rattle.run_reader.proofs.reader.RunReader.feed.Goals as goal

-- these bytes were fed
abbrev AreFed : Pieces RowReader → List ℕ → Type 0
AreFed pieces bytes = HasFed (λ (reader : RowReader). HasRead reader.fault reader) (λ (reader : RowReader). is_some reader.fault) pieces.reader pieces.unended bytes

-- a piece more was fed
fed_more : (old new : Pieces RowReader) (fed piece bytes : List ℕ) → new.reader.beside ≡ old.reader.beside → IsReady new.reader.fault new.reader → ((fed : List ℕ) → AreFed old fed → AreFed new (fed ++ piece)) → bytes ≡ fed ++ piece → IsFed old fed → IsFed new bytes
fed_more old new fed piece bytes same ready feeds is was = record {
  fed = subst (AreFed new) (sym is) (feeds fed was.fed);
  ready = ready;
  name = subst (λ beside. IfSome (given_in beside) (λ n. is_name n ≡ true)) (sym same) was.name;
}

-- and nothing else changed
seen_more : (old new : Pieces RowReader) (fed piece bytes : List ℕ) (seen : FedRun) → new.reader.beside ≡ old.reader.beside → bytes ≡ fed ++ piece → fed_run old fed ≡ seen → fed_run new bytes ≡ record seen { fed = seen.fed ++ piece }
seen_more old new fed piece bytes seen same is view =
    ap (λ beside. record { fed = bytes; given = given_in beside; used = beside.used; qrels = beside.qrels.now }) same ∙ ap (λ bytes. fed_run old bytes) is ∙ ap (λ (v : FedRun). record v { fed = v.fed ++ piece }) view

pub feed-requires : goal.feed-requires
feed-requires c = c.self.invariant.ready

pub invariant_of-self : goal.invariant_of-self
invariant_of-self c = fed_more c.self.inside.pieces c.feed.new.self c.self.inside.fed.bytes c.args.piece.now c.note.new.self.bytes c.feed.ensures.same c.feed.ensures.ready c.feed.ensures.fed c.note.ensures c.self.invariant

pub invariant_of-self-2 : goal.invariant_of-self-2
invariant_of-self-2 c = fed_more c.self.inside.pieces c.feed.new.self c.self.inside.fed.bytes c.args.piece.now c.note.new.self.bytes c.feed.ensures.same c.feed.ensures.ready c.feed.ensures.fed c.note.ensures c.self.invariant

pub returns-then-lacks_memory : goal.returns-then-lacks_memory
returns-then-lacks_memory c = seen_more c.self.inside.pieces c.feed.new.self c.self.inside.fed.bytes c.args.piece.now c.note.new.self.bytes c.args.self.now c.feed.ensures.same c.note.ensures c.self.view_is

pub returns : goal.returns
returns c = seen_more c.self.inside.pieces c.feed.new.self c.self.inside.fed.bytes c.args.piece.now c.note.new.self.bytes c.args.self.now c.feed.ensures.same c.note.ensures c.self.view_is
