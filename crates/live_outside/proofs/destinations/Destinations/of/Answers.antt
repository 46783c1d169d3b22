use Rattle.std.proofs.Common.{◌≡◌, arith, ◌<◌, ◌++◌, ◌∷◌, [], length}
use Rattle.network_routes.specs.Routes.{most_routes}
use Rattle.live_outside.proofs.Ways.{next_route, on_ok}
use Rattle.live_outside.proofs.destinations.Destinations.of.Goals as goal

pub loop-route-preserved : goal.loop-route-preserved
loop-route-preserved c =
    let fits : length c.loop-route.list.items < most_routes = omega (arith, c.as_slice-route-items.ensures.fits) in
    let more : c.try_push-fits.new.self.items ≡ c.loop-route.list.items ++ c.in_ok-destination_of.field-0 ∷ [] = on_ok c.try_push-fits.result (c.try_push-fits.ensures.variant.1 fits) c.try_push-fits.ensures.ok in
    record {
      items = c.loop-route.invariant.items;
      length = omega (arith, on_ok c.try_push-fits.result (c.try_push-fits.ensures.variant.1 fits) c.try_push-fits.ensures.len);
      list = rw more (next_route c.as_slice-route-items.result.now c.loop-route.route-index c.route-item.result c.loop-route.list.items c.in_ok-destination_of.field-0
          c.route-item.is (omega arith) c.loop-route.invariant.list c.in_ok-destination_of.ensures);
    }
