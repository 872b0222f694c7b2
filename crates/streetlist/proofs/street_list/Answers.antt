use Rattle.model.specs.Streets.{street_lines, list_text, check}
use Rattle.stores.specs.Sources.{sheet_told}
use Rattle.streetlist.proofs.Filling.{list_fills}
use Rattle.streetlist.proofs.street_list.Goals as goal

pub returns-clause-memory : goal.returns-clause-memory
returns-clause-memory g c =
    let s = sheet_told (g.S.Source.told c.args.source.now) in
    let e = c.in_ok-free.ensures in
    let p = rw e.0 at c.put_list.ensures in
    let q = rw e.0 at c.put_list-n.ensures in
    list_fills (check s) (list_text s.width s.height (street_lines s)) c.args.out.now c.put_list.new.out c.put_list-n.result c.put_list.result e.1 q.behind c.if-n-out.false p
