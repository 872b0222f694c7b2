use Rattle.std.proofs.Common.{[], ◌∷◌, ◌++◌, decimal}
use Rattle.std.specs.List.{flat_map}
use Rattle.model.specs.Streets.{street_lines, line_text}
use Rattle.stores.specs.Sources.{sheet_told}
use Rattle.streetlist.proofs.Putting.{put_then}
use Rattle.streetlist.proofs.put_text.Goals as goal

pub returns : goal.returns
returns g c =
    let s = sheet_told (g.S.Source.told c.args.free.now.source.now) in
    let ls = flat_map line_text (street_lines s) in
    let t = c.put_width.new.text in
    let u = c.put_space.new.self in
    let v = c.put_height.new.text in
    let w = c.put_byte.new.self in
    let x = c.put_lines.new.text in
    put_then (decimal s.width) (32 ∷ (decimal s.height ++ (10 ∷ ls))) c.args.text.now t x (rw c.source.ensures at c.put_width.ensures.puts)
    (put_then (32 ∷ []) (decimal s.height ++ (10 ∷ ls)) t u x c.put_space.ensures
    (put_then (decimal s.height) (10 ∷ ls) u v x (rw c.source-2.ensures at c.put_height.ensures.puts)
    (put_then (10 ∷ []) ls v w x c.put_byte.ensures c.put_lines.ensures)))
