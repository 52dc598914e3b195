mod WordFlags
