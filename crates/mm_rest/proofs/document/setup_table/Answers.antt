use Rattle.std.proofs.Common.{◌≡◌, ◌∙◌, ap, codes, map, subst, sym, true}
use Rattle.toml.specs.Data.{is_before, no_members}
use Rattle.toml.specs.View.{members_view, table_view}
use Rattle.mm_rest.specs.Documents.{limit_data, route_data, store_data, with_array}
use Rattle.mm_rest.proofs.SetupReads.{come_before, limit_before}
use Rattle.mm_rest.proofs.document.setup_table.Goals as goal

pub put_rows-requires-3 : goal.put_rows-requires-3
put_rows-requires-3 c =
    let empty : table_view c.new-table.result ≡ no_members = ap members_view c.new-table.ensures.empty in
    let stores = c.in_ok-put_rows.ensures.table
    ∙ ap (with_array (codes "store") (map store_data c.args.stores.now)) empty in
    let routes = c.in_ok-put_rows-2.ensures.table
    ∙ ap (with_array (codes "route") (map route_data c.args.routes.now)) stores in
    subst (λ ms. is_before (codes "limit") ms ≡ true) (sym routes) (limit_before c.args.routes.now c.args.stores.now)

pub put_come-requires : goal.put_come-requires
put_come-requires c =
    let empty : table_view c.new-table.result ≡ no_members = ap members_view c.new-table.ensures.empty in
    let stores = c.in_ok-put_rows.ensures.table
    ∙ ap (with_array (codes "store") (map store_data c.args.stores.now)) empty in
    let routes = c.in_ok-put_rows-2.ensures.table
    ∙ ap (with_array (codes "route") (map route_data c.args.routes.now)) stores in
    let limits = c.in_ok-put_rows-3.ensures.table
    ∙ ap (with_array (codes "limit") (map limit_data c.args.limits.now)) routes in
    subst (λ ms. is_before (codes "arrivals") ms ≡ true) (sym limits)
    (come_before c.args.limits.now c.args.routes.now c.args.stores.now)
